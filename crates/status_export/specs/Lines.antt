-- A line of JSON for scripts: an object of values that nest no deeper, `line_json`.
use Rattle.std.specs.Prelude.{ℕ, List, map}
use Rattle.std.specs.Borrow.{Bor}
use Rattle.json.specs.Json.{Json, null, boolean, string, object}
use Rattle.status_export.specs.declared.lines.Value.{Value}
use Rattle.status_export.specs.declared.lines.Value.TheVariants as value
use Rattle.status_export.specs.Document.{number_json, field_json, members_of}

-- what a value is in JSON
abbrev pub value_json : Value → Json
value_json value.Null = null
value_json (value.Number number) = number_json number
value_json (value.Word word) = string word.now
value_json (value.Field field) = field_json field.now

-- an object of these names and values
abbrev pub member_json : Bor (List ℕ) × Value → List ℕ × Json
member_json given = (given.0.now, value_json given.1)

abbrev pub line_json : List (Bor (List ℕ) × Value) → Json
line_json given = object (members_of (map member_json given))
