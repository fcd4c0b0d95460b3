use Rattle.std.proofs.Common.{◌≡◌, ◌++◌, map}
use Rattle.gate_pages.specs.Rows.{downtime_row, downtime_rows}
use Rattle.gate_pages.proofs.rows.downtime_rows.Given as goal

abbrev pub invariant-loop-entry : goal.invariant-loop-entry
invariant-loop-entry l =
    l.rows.items ++ map (downtime_row l.applier.table l.applier.records l.applier.moment) l.entry-iterator
    ≡ downtime_rows l.applier.table l.applier.records l.applier.moment
