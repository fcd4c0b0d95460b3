use Rattle.std.proofs.Common.{map, ap, inl, inr}
use Rattle.std.proofs.lemmas.List.{nil_from_length}
use Rattle.std.specs.Slice.Iter.{iter_rest}
use Rattle.status_reading.proofs.ZipSteps.{zip_over}
use Rattle.status_merge.specs.Asking.{asked_by}
use Rattle.operator_showing.specs.Choosing.{chosen_line}
use Rattle.operator_showing.proofs.choosing.chosen_text.Goals as goal

pub returns : goal.returns
returns c =
    let lines = iter_rest c.loop-line.line-iterator.a in
    let objects = iter_rest c.loop-line.line-iterator.b in
    zip_over (chosen_line (asked_by c.args.query.now)) c.loop-line.text.items _ (map (λ line. line.now) lines) objects
    (elim c.in-None.ensures.steps [
      | inl end ↦ inl (ap (map (λ line. line.now)) (nil_from_length lines end.1.0))
      | inr end ↦ inr (nil_from_length objects end.1.0)
    ])
    c.loop-line.invariant
