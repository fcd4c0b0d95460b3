use Rattle.std.proofs.Common.{◌≡◌, ◌++◌, drop, map}
use Rattle.status_reading.specs.Rows.{object_view}
use Rattle.status_reading.specs.RowFaults.{line_of}
use Rattle.status_reading.proofs.row_faults.lines_of.Given as goal

abbrev pub invariant-loop-row : goal.invariant-loop-row
invariant-loop-row l =
    l.lines.items ++ map line_of (map object_view (drop l.row-index l.objects)) ≡ map line_of (map object_view l.objects)
