use Rattle.std.proofs.Common.{◌≡◌, ◌++◌, drop}
use Rattle.restore_plan.specs.Plan.{results_from}
use Rattle.restore_plan.proofs.plan.results_of.Given as goal

abbrev pub invariant-loop-index : goal.invariant-loop-index
invariant-loop-index l =
    l.fates.items ++ results_from l.fresh l.kept l.index (drop l.index l.records) ≡ results_from l.fresh l.kept 0 l.records
