use Rattle.std.proofs.Common.{◌≡◌, ◌≤◌, ◌++◌, drop, length}
use Rattle.restore_plan.specs.Plan.{others_from}
use Rattle.restore_plan.proofs.plan.others_of.Given as goal

abbrev pub invariant-loop-index : goal.invariant-loop-index
invariant-loop-index l = record {
  fates : l.fates.items ++ others_from l.fresh l.kept l.index (drop l.index l.records) (drop l.done l.renewals)
      ≡ others_from l.fresh l.kept 0 l.records l.renewals;
  within : l.done ≤ length l.renewals;
}
