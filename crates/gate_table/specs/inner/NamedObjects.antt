-- Only proofs and private functions use these definitions: the objects of a table as it keeps them, each by its key,
-- with the places of the services that it has as a host.
use Rattle.std.specs.Prelude.{◌≡◌, ℕ, true, List, [], length, map, filter, Option, Some, None}
use Rattle.std.specs.Global.{Vec}
use Rattle.std.specs.List.{list_all, enumerate_from}
use Rattle.std.specs.Map.{keys_of, values_of}
use Rattle.std.proofs.Common.{get_or}
use Rattle.gate_model.specs.declared.object.ObjectLine.{ObjectLine}
use Rattle.gate_model.specs.Table.{place_of, is_service_line_of, most_services}
use Rattle.gate_table.specs.Faults.{IsFaultless}
use Rattle.gate_table.specs.inner.Keys.{line_key, is_short_line}

-- the bytes of a key, and the places that its object has
abbrev pub shown_one : Vec ℕ × Vec ℕ → List ℕ × List ℕ
shown_one one = (one.0.items, one.1.items)

-- the bytes of each key, and the places that its object has
abbrev pub shown : List (Vec ℕ × Vec ℕ) → List (List ℕ × List ℕ)
shown entries = map shown_one entries

-- the places of the services of the host of this name among lines of which the first has this place
abbrev pub service_places : List ℕ → ℕ → List ObjectLine → List ℕ
service_places host place lines =
    map (λ (one : ℕ × ObjectLine). one.0)
    (filter (λ (one : ℕ × ObjectLine). is_service_line_of host one.1) (enumerate_from place lines))

-- the list at this place, and none outside
abbrev pub row_at : List (List ℕ) → ℕ → List ℕ
row_at rows place = get_or rows place []

-- the list at a place, and none without one
abbrev pub row_of : List (List ℕ) → Option ℕ → List ℕ
row_of rows None = []
row_of rows (Some place) = row_at rows place

-- the keys of the lines, and at each host's place the places of its services
pub record AreKeysAndServices (lines : List ObjectLine) (keys rows : List (List ℕ)) : Type 0 where
  pub keys_are : keys ≡ map line_key lines
  pub short : list_all is_short_line lines ≡ true
  pub one_each : length rows ≡ length lines
  pub services_are : (host : List ℕ) → row_of rows (place_of lines host None) ≡ service_places host 0 lines

-- the objects are those of the lines
abbrev pub AreObjects : List ObjectLine → List (List ℕ × List ℕ) → Type 0
AreObjects lines objects = AreKeysAndServices lines (keys_of objects) (values_of objects)

-- the lines are a table of these objects, whose host with the most services has this many
pub record IsTable (lines : List ObjectLine) (objects : List (List ℕ × List ℕ)) (most : ℕ) : Type 0 where
  pub are_objects : AreObjects lines objects
  pub faultless : IsFaultless lines
  pub most_is : most ≡ most_services lines
