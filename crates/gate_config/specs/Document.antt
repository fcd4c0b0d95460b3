-- What is tested of a document of TOML, in which order (`document_checks`), and which objects it gives
-- (`object_lines`). Own rule.
use Rattle.std.specs.Prelude.{ℕ, List, [], ◌∷◌, ◌++◌, map, Bool, Option, Some, None, option_map, option_and_then, unwrap_or, if◌then◌else◌}
use Rattle.std.specs.List.{list_any, flat_map}
use Rattle.std.specs.Str.{bytes_eq}
use Rattle.std.specs.Ordering.{nat_cmp, match_ordering}
use Rattle.std.specs.Cmp.Lexicographic.{slice_cmp}
use Rattle.toml.specs.Data.{Data, Members, no_members, member, as_str, as_table}
use Rattle.gate_model.specs.declared.object.ObjectLine.{ObjectLine}
use Rattle.gate_config.specs.declared.key.Key.{Key}
use Rattle.gate_config.specs.declared.key.Key.TheVariants.{Host, Name, Freshness, Service}
use Rattle.gate_config.specs.declared.fault.ConfigFault.{ConfigFault}
use Rattle.gate_config.specs.declared.fault.ConfigFault.TheVariants.{UnknownKey, BadValue, MissingName}
use Rattle.gate_config.specs.Keys.{Kind, address, number, name, tables, name_of, kind_of, document_keys, host_keys, service_keys}
use Rattle.gate_config.specs.Check.{Check, fault_if, address_or, object_table}
use Rattle.gate_config.specs.Values.{value_at, text_or, number_or, tables_or_none}

-- ---- keys that no table has

-- the text is one of these keys
abbrev pub is_key : List Key → List ℕ → Bool
is_key keys text = list_any (λ key. bytes_eq (name_of key) text) keys

-- of two texts the one that is less by its bytes
abbrev pub lesser : List ℕ → Option (List ℕ) → List ℕ
lesser text None = text
lesser text (Some other) = match_ordering (slice_cmp nat_cmp text other) text text other

-- the key of the table that is none of these; of several the least by its bytes
abbrev pub least_unknown : List Key → Members → Option (List ℕ)
least_unknown keys no_members = None
least_unknown keys (member text value rest) =
    if is_key keys text then least_unknown keys rest else Some (lesser text (least_unknown keys rest))

-- ---- the tests of a table

-- nothing was found: the key's value is bad
abbrev pub bad_unless : {A : Type 0} → Key → Option A → Option ConfigFault
bad_unless key (Some found) = None
bad_unless key None = Some (BadValue key)

-- a text is an address
abbrev pub text_check : Key → Option (List ℕ) → Check
text_check key (Some text) = address_or text (BadValue key)
text_check key None = fault_if (Some (BadValue key))

-- a name is there, and a text
abbrev pub name_fault : Key → Option Data → Option ConfigFault
name_fault key None = Some MissingName
name_fault key (Some value) = bad_unless key (as_str value)

-- the value at a key is one that it may hold
abbrev pub value_check : Key → Kind → Option Data → Check
value_check key (address default) value = text_check key (text_or default value)
value_check key (number least greatest default) value =
    fault_if (bad_unless key (number_or least greatest default value))
value_check key name value = fault_if (name_fault key value)
value_check key tables value = fault_if (bad_unless key (tables_or_none value))

-- the text at a key of addresses, or the one that stands where there is none
abbrev pub text_by : Kind → Option Data → Option (List ℕ)
text_by (address default) value = text_or default value
text_by _ value = None

abbrev pub text_at : Members → Key → Option (List ℕ)
text_at table key = text_by (kind_of key) (value_at table key)

-- the number at a key of numbers, or the one that stands where there is none
abbrev pub number_by : Kind → Option Data → Option ℕ
number_by (number least greatest default) value = number_or least greatest default value
number_by _ value = None

abbrev pub number_at : Members → Key → Option ℕ
number_at table key = number_by (kind_of key) (value_at table key)

-- the value at a key of this table is one that the key may hold
abbrev pub key_check : Members → Key → Check
key_check table key = value_check key (kind_of key) (value_at table key)

-- the table has no other keys than these, and then their values are good, in the order of the keys
abbrev pub table_checks : List Key → Members → List Check
table_checks keys table =
    fault_if (option_map UnknownKey (least_unknown keys table)) ∷ map (key_check table) keys

-- the values of the array of tables at this key
abbrev pub rows_at : Members → Key → List Data
rows_at table key = unwrap_or (tables_or_none (value_at table key)) []

-- the tests of a service; a value that is no table has none, since the array's own test finds it
abbrev pub service_checks : Option Members → List Check
service_checks None = []
service_checks (Some service) = table_checks service_keys service

-- the tests of a host, and then of its services, in their order
abbrev pub host_checks : Option Members → List Check
host_checks None = []
host_checks (Some host) =
    table_checks host_keys host ++ flat_map (λ row. service_checks (as_table row)) (rows_at host Service)

-- ---- the object table

-- the name of a host or a service
abbrev pub name_at : Members → List ℕ
name_at table = unwrap_or (option_and_then as_str (value_at table Name)) []

-- the seconds for which a result is fresh
abbrev pub threshold_at : Members → ℕ
threshold_at table = unwrap_or (number_at table Freshness) 0

-- the line of an object
abbrev pub line_of : List ℕ → Option (List ℕ) → ℕ → ObjectLine
line_of host service threshold = record { host = host; service = service; threshold = threshold }

-- the line of a service of this host
abbrev pub service_lines : List ℕ → Option Members → List ObjectLine
service_lines host None = []
service_lines host (Some service) = line_of host (Some (name_at service)) (threshold_at service) ∷ []

-- the line of a host, and then those of its services
abbrev pub host_lines : Option Members → List ObjectLine
host_lines None = []
host_lines (Some host) =
    line_of (name_at host) None (threshold_at host)
    ∷ flat_map (λ row. service_lines (name_at host) (as_table row)) (rows_at host Service)

-- the lines of the object table: each host before its services, in the order of the document
abbrev pub object_lines : Members → List ObjectLine
object_lines document = flat_map (λ row. host_lines (as_table row)) (rows_at document Host)

-- ---- the tests of a document

-- its own keys; then its hosts, in their order; then the object table
abbrev pub document_checks : Members → List Check
document_checks document =
    table_checks document_keys document
    ++ flat_map (λ row. host_checks (as_table row)) (rows_at document Host)
    ++ object_table (object_lines document) ∷ []
