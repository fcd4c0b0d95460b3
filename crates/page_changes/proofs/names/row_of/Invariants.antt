use Rattle.std.proofs.Common.{◌≡◌, drop, map}
use Rattle.status_reading.specs.Rows.{object_view}
use Rattle.page_changes.specs.Names.{row_with}
use Rattle.page_changes.proofs.names.row_of.Given as goal

abbrev pub invariant-loop-row : goal.invariant-loop-row
invariant-loop-row l = row_with l.names (map object_view (drop l.row-index l.rows)) ≡ row_with l.names (map object_view l.rows)
