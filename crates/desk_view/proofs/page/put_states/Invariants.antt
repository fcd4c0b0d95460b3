use Rattle.std.proofs.Common.{◌≡◌, ◌++◌, map, drop}
use Rattle.status_reading.specs.Rows.{object_view}
use Rattle.status_view.specs.Filling.{html_bytes}
use Rattle.desk_view.specs.Page.{states_parts}
use Rattle.desk_view.proofs.page.put_states.Given as goal

abbrev pub invariant-loop-row : goal.invariant-loop-row
invariant-loop-row l =
    l.html ++ html_bytes (states_parts l.of l.gateway l.moment (map object_view (drop l.row-index l.rows)))
    ≡ l.initial.html ++ html_bytes (states_parts l.of l.gateway l.moment (map object_view l.rows))
