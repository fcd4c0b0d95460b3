use Rattle.std.proofs.Common.{◌≡◌, ◌++◌, map, drop}
use Rattle.status_reading.specs.Rows.{downtime_view}
use Rattle.status_view.specs.Filling.{html_bytes}
use Rattle.desk_view.specs.Page.{downtimes_parts}
use Rattle.desk_view.proofs.page.put_downtimes.Given as goal

abbrev pub invariant-loop-row : goal.invariant-loop-row
invariant-loop-row l =
    l.html ++ html_bytes (downtimes_parts l.of l.gateway (map downtime_view (drop l.row-index l.rows)))
    ≡ l.initial.html ++ html_bytes (downtimes_parts l.of l.gateway (map downtime_view l.rows))
