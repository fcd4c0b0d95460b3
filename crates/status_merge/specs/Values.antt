-- The value of a name among the pairs of a URL's query (URL Standard, section 5): `value_in`. It may have any bytes.
use Rattle.std.specs.Prelude.{ℕ, List, [], map, filter, None, unwrap_or}
use Rattle.std.specs.List.{last_or}
use Rattle.std.specs.Str.{bytes_eq}
use Rattle.form_urlencoded.specs.Form.{decode}

-- the value of the last of these encoded pairs that has this name; nothing where none has it
abbrev pub value_in : List ℕ → List (List ℕ × List ℕ) → List ℕ
value_in name pairs =
    unwrap_or
    (last_or None
    (map (λ (pair : List ℕ × List ℕ). decode pair.1) (filter (λ pair. bytes_eq (decode pair.0) name) pairs)))
    []
