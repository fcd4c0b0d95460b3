use Rattle.std.proofs.Common.{◌≡◌, drop, map}
use Rattle.status_reading.specs.Rows.{downtime_view}
use Rattle.page_changes.specs.Foreseen.{is_entry}
use Rattle.page_changes.proofs.foreseen.is_entry.Given as goal

abbrev pub invariant-loop-row : goal.invariant-loop-row
invariant-loop-row l = is_entry (map downtime_view (drop l.row-index l.rows)) l.id ≡ is_entry (map downtime_view l.rows) l.id
