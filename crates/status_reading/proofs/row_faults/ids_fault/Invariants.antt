use Rattle.std.proofs.Common.{map}
use Rattle.status_reading.specs.RowFaults.{id_faults, first_from}
use Rattle.status_reading.proofs.RowSteps.{IsFirstAfter}
use Rattle.status_reading.proofs.row_faults.ids_fault.Given as goal

abbrev pub invariant-loop-index : goal.invariant-loop-index
invariant-loop-index g l =
    IsFirstAfter l.table g.R.HasNames.names_of l.line l.rows
    (first_from l.line (id_faults l.table 0 (map g.R.HasNames.names_of l.rows)))
    l.last l.index
