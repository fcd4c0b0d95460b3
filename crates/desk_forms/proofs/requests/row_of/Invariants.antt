use Rattle.std.proofs.Common.{◌≡◌, drop, map, find}
use Rattle.status_reading.specs.Rows.{object_view}
use Rattle.desk_forms.specs.Requests.{is_row}
use Rattle.desk_forms.proofs.requests.row_of.Given as goal

abbrev pub invariant-loop-row : goal.invariant-loop-row
invariant-loop-row l =
    find (is_row l.host l.service) (map object_view (drop l.row-index l.rows))
    ≡ find (is_row l.host l.service) (map object_view l.rows)
