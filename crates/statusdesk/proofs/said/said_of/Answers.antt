use Rattle.std.proofs.Common.{map, inl, inr}
use Rattle.std.proofs.lemmas.List.{nil_from_length}
use Rattle.std.specs.Slice.Iter.{iter_rest}
use Rattle.status_reading.proofs.ZipSteps.{zip_over}
use Rattle.statusdesk.specs.Notes.{said_view}
use Rattle.statusdesk.specs.Said.{said_if_for}
use Rattle.statusdesk.proofs.said.said_of.Goals as goal

pub returns : goal.returns
returns c =
    let seen = iter_rest c.loop-one.one-iterator.a in
    let all = iter_rest c.loop-one.one-iterator.b in
    zip_over (said_if_for c.args.names.now) (map said_view c.loop-one.said.items) _ seen all
    (elim c.in-None.ensures.steps [
      | inl end ↦ inl (nil_from_length seen end.1.0)
      | inr end ↦ inr (nil_from_length all end.1.0)
    ])
    c.loop-one.invariant
