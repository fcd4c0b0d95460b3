use Rattle.std.proofs.Common.{◌≡◌, drop, map}
use Rattle.status_reading.specs.Rows.{downtime_view}
use Rattle.page_changes.specs.Foreseen.{downtime_field}
use Rattle.page_changes.proofs.foreseen.downtime_field.Given as goal

abbrev pub invariant-loop-row : goal.invariant-loop-row
invariant-loop-row l = downtime_field l.id (map downtime_view (drop l.row-index l.rows)) ≡ downtime_field l.id (map downtime_view l.rows)
