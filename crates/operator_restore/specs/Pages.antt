-- What a status page says of the gateway that wrote it: its objects, `kept_lines`. Own rule.
use Rattle.std.specs.Prelude.{ℕ, List, [], ◌∷◌, map, Option, Some, None}
use Rattle.gate_model.specs.declared.object.ObjectLine.{ObjectLine}
use Rattle.status_reading.specs.declared.page.StatusPage.{StatusPage}
use Rattle.status_reading.specs.declared.rows.ShownObject.{ShownObject}
use Rattle.status_reading.specs.Plain.{plain_bytes}

-- the name of a service that a field shows; a host's is empty
abbrev pub kept_service : List ℕ → Option (List ℕ)
kept_service [] = None
kept_service (byte ∷ field) = Some (plain_bytes (byte ∷ field))

-- the line of the object of a row, without its freshness, which no page shows
abbrev pub kept_line : ShownObject → ObjectLine
kept_line row =
    record { host = plain_bytes row.host.now; service = kept_service row.service.now; threshold = 0 }

-- the objects of the gateway that wrote the page
abbrev pub kept_lines : StatusPage → List ObjectLine
kept_lines page = map kept_line page.objects.items
