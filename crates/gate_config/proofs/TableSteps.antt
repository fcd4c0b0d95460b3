-- An array of tables, and the values in it.
use Rattle.std.proofs.Common.{◌≡◌, true, false, List, [], ◌∷◌, Option, Some, None, map, refl, ap}
use Rattle.std.specs.List.{list_all}
use Rattle.toml.specs.Data.{Data, as_array}
use Rattle.toml.specs.View.{view, items_view}
use Rattle.toml.specs.declared.value.Value.{Value}
use Rattle.gate_config.specs.Values.{list_of, is_table, tables_or_none}

pub list_of-items : (values : List Value) → list_of (items_view values) ≡ map view values
list_of-items [] = refl
list_of-items (value ∷ values) = ap (λ rest. view value ∷ rest) (list_of-items values)

list_all-map : (values : List Value) → list_all is_table (map view values) ≡ list_all (λ value. is_table (view value)) values
list_all-map [] = refl
list_all-map (value ∷ values) = rw (list_all-map values)

pub tables_are : (found : Option Data) (value : Data) (values : List Value) → Some value ≡ found → Some (items_view values) ≡ as_array value
    → list_all (λ value. is_table (view value)) values ≡ true → tables_or_none found ≡ Some (map view values)
tables_are found value values is_found is_array all =
    rw (← is_found, ← is_array, list_of-items values, list_all-map values, all)

pub not_all_tables : (found : Option Data) (value : Data) (values : List Value) → Some value ≡ found → Some (items_view values) ≡ as_array value
    → list_all (λ value. is_table (view value)) values ≡ false → tables_or_none found ≡ None
not_all_tables found value values is_found is_array some =
    rw (← is_found, ← is_array, list_of-items values, list_all-map values, some)
