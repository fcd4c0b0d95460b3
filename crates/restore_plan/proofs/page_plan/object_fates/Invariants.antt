use Rattle.std.proofs.Common.{◌≡◌, ◌++◌, drop}
use Rattle.restore_plan.specs.PagePlan.{object_fates}
use Rattle.restore_plan.proofs.page_plan.object_fates.Given as goal

abbrev pub invariant-loop-row : goal.invariant-loop-row
invariant-loop-row l =
    l.fates.items ++ object_fates l.fresh l.now (drop l.row-index l.rows) ≡ object_fates l.fresh l.now l.rows
