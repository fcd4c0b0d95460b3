use Rattle.std.proofs.Common.{◌≡◌, ◌≤◌, ◌++◌, drop, length}
use Rattle.restore_plan.specs.PagePlan.{others_among}
use Rattle.restore_plan.proofs.page_plan.walk.Given as goal

abbrev pub invariant-loop-index : goal.invariant-loop-index
invariant-loop-index l = record {
  fates : l.fates.items ++ others_among l.fresh l.now l.objects (drop l.index l.comments) (drop l.done l.entries)
      ≡ others_among l.fresh l.now l.objects l.comments l.entries;
  within : l.done ≤ length l.entries;
}
