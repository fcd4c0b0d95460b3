use Rattle.std.proofs.Common.{◌≡◌, drop, map}
use Rattle.std.specs.List.{list_any}
use Rattle.status_reading.specs.Rows.{ObjectView, object_view}
use Rattle.page_changes.specs.Names.{is_service_of}
use Rattle.page_changes.proofs.foreseen.has_services.Given as goal

abbrev pub invariant-loop-row : goal.invariant-loop-row
invariant-loop-row l =
    list_any (λ (row : ObjectView). is_service_of l.names.host row.host row.service) (map object_view (drop l.row-index l.rows))
    ≡ list_any (λ (row : ObjectView). is_service_of l.names.host row.host row.service) (map object_view l.rows)
