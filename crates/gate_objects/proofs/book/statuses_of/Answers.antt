use Rattle.std.proofs.Common.{◌∙◌, arith}
use Rattle.gate_objects.proofs.OpeningSteps.{new_statuses-more}
use Rattle.gate_objects.proofs.book.statuses_of.Goals as goal

pub loop-place-preserved : goal.loop-place-preserved
loop-place-preserved c =
    c.in_ok-push.ensures.items
    ∙ new_statuses-more c.args.table.now c.loop-place.place c.loop-place.statuses.items c.status_of.result (omega arith) c.loop-place.invariant c.status_of.ensures
