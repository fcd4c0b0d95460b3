use Rattle.std.proofs.Common.{◌≡◌, drop, map}
use Rattle.status_reading.specs.Rows.{comment_view}
use Rattle.page_changes.specs.Foreseen.{comment_field}
use Rattle.page_changes.proofs.foreseen.comment_field.Given as goal

abbrev pub invariant-loop-row : goal.invariant-loop-row
invariant-loop-row l = comment_field l.id (map comment_view (drop l.row-index l.rows)) ≡ comment_field l.id (map comment_view l.rows)
