use Rattle.std.proofs.Common.{◌≡◌, ◌++◌, drop}
use Rattle.restore_plan.specs.PagePlan.{row_renewals_from, row_renewals_of}
use Rattle.restore_plan.proofs.page_plan.row_renewals_of.Given as goal

abbrev pub invariant-loop-row : goal.invariant-loop-row
invariant-loop-row l =
    l.renewals.items ++ row_renewals_from l.fresh l.now l.until l.sent.items (drop l.row-index l.rows)
    ≡ row_renewals_of l.fresh l.now l.until l.rows
