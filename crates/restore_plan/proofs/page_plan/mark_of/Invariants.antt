use Rattle.std.proofs.Common.{◌≡◌, drop}
use Rattle.restore_plan.specs.PagePlan.{mark_of}
use Rattle.restore_plan.proofs.page_plan.mark_of.Given as goal

abbrev pub invariant-loop-object : goal.invariant-loop-object
invariant-loop-object l =
    mark_of l.threshold l.now (drop l.object-index l.objects) l.row ≡ mark_of l.threshold l.now l.objects l.row
