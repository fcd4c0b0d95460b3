use Rattle.std.proofs.Common.{◌≡◌, drop, map}
use Rattle.status_reading.specs.Rows.{downtime_view}
use Rattle.desk_forms.specs.Requests.{shows_downtime}
use Rattle.desk_forms.proofs.requests.shows_downtime.Given as goal

abbrev pub invariant-loop-row : goal.invariant-loop-row
invariant-loop-row l =
    shows_downtime l.id (map downtime_view (drop l.row-index l.rows)) ≡ shows_downtime l.id (map downtime_view l.rows)
