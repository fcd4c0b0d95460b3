use Rattle.std.proofs.Common.{◌≡◌, drop}
use Rattle.std.specs.List.{position_from}
use Rattle.restore_plan.specs.PagePlan.{is_entry_of}
use Rattle.restore_plan.proofs.page_plan.entry_index.Given as goal

abbrev pub invariant-loop-index : goal.invariant-loop-index
invariant-loop-index l =
    position_from (is_entry_of l.row) l.index (drop l.index l.entries) ≡ position_from (is_entry_of l.row) 0 l.entries
