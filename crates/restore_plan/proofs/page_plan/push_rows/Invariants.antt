use Rattle.std.proofs.Common.{◌≡◌, ◌++◌, drop}
use Rattle.std.specs.Prelude.{map}
use Rattle.restore_plan.specs.PagePlan.{row_fate}
use Rattle.restore_plan.proofs.page_plan.push_rows.Given as goal

abbrev pub invariant-loop-one : goal.invariant-loop-one
invariant-loop-one l =
    l.fates.items ++ map row_fate (drop l.one-index l.entries) ≡ l.fn.fates.items ++ map row_fate l.entries
