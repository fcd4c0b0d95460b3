-- The fields of a status page that name an object: texts are escaped, and the service's field of a host is empty.
use Rattle.std.specs.Prelude.{ℕ, ◌==◌, ◌&&◌, Bool, false, not, List, length, find, Option, Some, None, if◌then◌else◌}
use Rattle.std.specs.Str.{bytes_eq}
use Rattle.gate_model.specs.declared.object.Kind.{Kind}
use Rattle.gate_model.specs.declared.object.Kind.TheVariants.{Host, Service}
use Rattle.gate_model.specs.Escaping.{escaped}
use Rattle.gate_lines.specs.Lines.{service_text}
use Rattle.status_reading.specs.Rows.{ObjectView}
use Rattle.page_changes.specs.declared.names.Names.{Names}

-- the fields of the object of these names
abbrev pub shown_names : List ℕ → Option (List ℕ) → Names
shown_names host service = record { host = escaped host; service = service_text service }

-- a service with an empty name: there is none
abbrev pub is_nameless : Option (List ℕ) → Bool
is_nameless None = false
is_nameless (Some name) = length name == 0

-- a row with these fields is of the object
abbrev pub has_names : Names → List ℕ → List ℕ → Bool
has_names names host service = bytes_eq host names.host && bytes_eq service names.service

-- the field of a service is not empty
abbrev pub is_service : List ℕ → Bool
is_service field = not (length field == 0)

-- the kind of the object whose field of the service this is
abbrev pub kind_of_field : List ℕ → Kind
kind_of_field field = if is_service field then Service else Host

-- a row with these fields is of a service of this host
abbrev pub is_service_of : List ℕ → List ℕ → List ℕ → Bool
is_service_of name host service = bytes_eq host name && is_service service

-- the first row of the object
abbrev pub row_with : Names → List ObjectView → Option ObjectView
row_with names rows = find (λ (row : ObjectView). has_names names row.host row.service) rows
