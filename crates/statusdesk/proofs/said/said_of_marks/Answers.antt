use Rattle.std.proofs.Common.{map, inl, inr}
use Rattle.std.proofs.lemmas.List.{nil_from_length}
use Rattle.std.specs.Slice.Iter.{iter_rest}
use Rattle.status_reading.proofs.ZipSteps.{zip_over, map_over}
use Rattle.statusdesk.specs.Notes.{said_view}
use Rattle.statusdesk.specs.Said.{said_of_mark}
use Rattle.statusdesk.specs.Marking.{dones_in}
use Rattle.statusdesk.proofs.MarkSteps.{texts_in}
use Rattle.statusdesk.proofs.said.said_of_marks.Goals as goal

pub returns : goal.returns
returns c =
    let marks = iter_rest c.loop-mark.mark-iterator.a in
    let all = iter_rest c.loop-mark.mark-iterator.b in
    zip_over (said_of_mark c.args.seen.now) (map said_view c.loop-mark.said.items) _ (texts_in marks) (dones_in all)
    (map_over (λ mark. mark.now) (λ one. one.items) marks all
    (elim c.in-None.ensures.steps [
      | inl end ↦ inl (nil_from_length marks end.1.0)
      | inr end ↦ inr (nil_from_length all end.1.0)
    ]))
    c.loop-mark.invariant
