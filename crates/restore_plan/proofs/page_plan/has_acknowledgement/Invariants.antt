use Rattle.std.proofs.Common.{◌≡◌, drop}
use Rattle.restore_plan.specs.PagePlan.{has_acknowledgement}
use Rattle.restore_plan.proofs.page_plan.has_acknowledgement.Given as goal

abbrev pub invariant-loop-one : goal.invariant-loop-one
invariant-loop-one l =
    has_acknowledgement l.row (drop l.one-index l.later) ≡ has_acknowledgement l.row l.later
