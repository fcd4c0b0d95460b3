-- What stands at a key of a table: the table and its values are those that the reader of TOML gives.
use Rattle.std.specs.Prelude.{ℕ, ℤ, pos, negsuc, Bool, ◌&&◌, nat_le, List, [], ◌∷◌, Option, Some, None, is_some, option_and_then, if◌then◌else◌}
use Rattle.std.specs.List.{list_all}
use Rattle.toml.specs.Data.{Data, Items, no_items, item, Members, get_member, as_str, as_integer, as_array, as_table}
use Rattle.gate_config.specs.declared.key.Key.{Key}
use Rattle.gate_config.specs.Keys.{name_of}

-- the value at this key of the table
abbrev pub value_at : Members → Key → Option Data
value_at table key = get_member (name_of key) table

-- the text, or the one that stands where there is none; nothing where the value is no text
abbrev pub text_or : List ℕ → Option Data → Option (List ℕ)
text_or default None = Some default
text_or default (Some value) = as_str value

-- the integer, where it is not below the least and not above the greatest
abbrev pub integer_within : ℕ → ℕ → Option ℤ → Option ℕ
integer_within least greatest (Some (pos n)) =
    if nat_le least n && nat_le n greatest then Some n else None
integer_within least greatest (Some (negsuc n)) = None
integer_within least greatest None = None

-- the number, or the one that stands where there is none; nothing where the value is no integer in the range
abbrev pub number_or : ℕ → ℕ → ℕ → Option Data → Option ℕ
number_or least greatest default None = Some default
number_or least greatest default (Some value) = integer_within least greatest (as_integer value)

-- the items of an array, in order
abbrev pub list_of : Items → List Data
list_of no_items = []
list_of (item value rest) = value ∷ list_of rest

-- the value is a table
abbrev pub is_table : Data → Bool
is_table value = is_some (as_table value)

-- the values of an array of tables; nothing where one of them is no table
abbrev pub if_tables : List Data → Option (List Data)
if_tables values = if list_all is_table values then Some values else None

-- the values of an array of tables, of which there are none where there is no array; nothing where
-- the value is no array of tables
abbrev pub tables_or_none : Option Data → Option (List Data)
tables_or_none None = Some []
tables_or_none (Some value) = option_and_then (λ items. if_tables (list_of items)) (as_array value)
