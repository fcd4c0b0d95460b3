use Rattle.std.proofs.Common.{◌≡◌, map, drop}
use Rattle.status_reading.specs.Rows.{object_view}
use Rattle.desk_view.specs.Page.{shows}
use Rattle.desk_view.proofs.page.shows.Given as goal

abbrev pub invariant-loop-row : goal.invariant-loop-row
invariant-loop-row l =
    shows l.host l.service (map object_view (drop l.row-index l.rows)) ≡ shows l.host l.service (map object_view l.rows)
