-- The table of monitored objects: which object two names are those of (`object_of`), and the services of a host
-- (`services_of`).
use Rattle.std.specs.Prelude.{◌≡◌, ℕ, ◌+◌, ◌<◌, ◌≤◌, ◌⊎◌, Bool, true, false, not, ◌&&◌, nat_lt, List, [], ◌∷◌, take, length, max, map, filter, count_by, slice_get, Option, Some, None, is_some, is_none, option_map, if◌then◌else◌}
use Rattle.std.specs.Str.{bytes_eq}
use Rattle.std.specs.List.{position_from, enumerate_from}
use Rattle.gate_model.specs.declared.object.Kind.{Kind}
use Rattle.gate_model.specs.declared.object.Kind.TheVariants.{Host, Service}
use Rattle.gate_model.specs.declared.object.ObjectId.{ObjectId}
use Rattle.gate_model.specs.declared.object.ObjectLine.{ObjectLine}

-- ---- lookups

-- both are no service, or services of one name
abbrev pub is_same_service : Option (List ℕ) → Option (List ℕ) → Bool
is_same_service None None = true
is_same_service (Some name) (Some other) = bytes_eq name other
is_same_service None (Some other) = false
is_same_service (Some name) None = false

-- the line is that of the object of these names
abbrev pub is_line_of : List ℕ → Option (List ℕ) → ObjectLine → Bool
is_line_of host service line = bytes_eq line.host host && is_same_service line.service service

-- the place, from 0, of the object of these names
abbrev pub place_of : List ObjectLine → List ℕ → Option (List ℕ) → Option ℕ
place_of table host service = position_from (is_line_of host service) 0 table

-- the table has an object of these names
abbrev pub has_object : List ObjectLine → List ℕ → Option (List ℕ) → Bool
has_object table host service = is_some (place_of table host service)

-- a host without a service's name, and a service with one
abbrev pub object_kind : Option (List ℕ) → Kind
object_kind None = Host
object_kind (Some name) = Service

-- the object of this kind at this place
abbrev pub object_at : Kind → ℕ → ObjectId
object_at kind place = record { place = place; kind = kind }

-- the object of these names
abbrev pub object_of : List ObjectLine → List ℕ → Option (List ℕ) → Option ObjectId
object_of table host service =
    option_map (object_at (object_kind service)) (place_of table host service)

-- ---- the services of a host

-- the line of a service of this host
abbrev pub is_service_line_of : List ℕ → ObjectLine → Bool
is_service_line_of host line = bytes_eq line.host host && is_some line.service

-- the services of the host of this name among lines of which the first has this place, in their order
abbrev pub services_from : List ℕ → ℕ → List ObjectLine → List ObjectId
services_from host place lines =
    map (λ (one : ℕ × ObjectLine). object_at Service one.0)
    (filter (λ (one : ℕ × ObjectLine). is_service_line_of host one.1) (enumerate_from place lines))

-- the services of the host of this name, in table order
abbrev pub services_of : List ObjectLine → List ℕ → List ObjectId
services_of table host = services_from host 0 table

-- the services of the host that this line names
abbrev pub services_by : List ObjectLine → Option ObjectLine → List ObjectId
services_by table None = []
services_by table (Some line) = services_of table line.host

-- the services of the host of the object at this place, in table order
abbrev pub services_at : List ObjectLine → ℕ → List ObjectId
services_at table place = services_by table (slice_get table place)

-- the greatest of these numbers, and 0 of none
abbrev pub greatest : List ℕ → ℕ
greatest [] = 0
greatest (number ∷ numbers) = max number (greatest numbers)

-- how many services the host with the most of them has
abbrev pub most_services : List ObjectLine → ℕ
most_services table = greatest (map (λ (line : ObjectLine). count_by (is_service_line_of line.host) table) table)

-- a host's line
abbrev pub is_host_line : ObjectLine → Bool
is_host_line line = is_none line.service
