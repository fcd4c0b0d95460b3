-- The tests of a host's or a service's table, one by one, and the lines that it gives.
use Rattle.std.proofs.Common.{◌≡◌, ℕ, List, [], ◌∷◌, ◌++◌, Option, Some, None, map, option_map, unwrap_or, subst, ap, ◌∙◌, sym}
use Rattle.std.specs.Option.{option_and_then}
use Rattle.std.specs.List.{flat_map}
use Rattle.toml.specs.Data.{Data, Members, as_str, as_table}
use Rattle.toml.specs.View.{view}
use Rattle.toml.specs.declared.value.Value.{Value}
use Rattle.gate_model.specs.declared.object.ObjectLine.{ObjectLine}
use Rattle.gate_config.specs.declared.key.Key.{Key}
use Rattle.gate_config.specs.declared.key.Key.TheVariants.{Name, Freshness, Service}
use Rattle.gate_config.specs.declared.fault.ConfigFault.{ConfigFault}
use Rattle.gate_config.specs.declared.fault.ConfigFault.TheVariants.{UnknownKey}
use Rattle.gate_config.specs.Keys.{host_keys}
use Rattle.gate_config.specs.Check.{Check, AllPass, FirstFails}
use Rattle.gate_config.specs.Values.{value_at, tables_or_none}
use Rattle.gate_config.specs.Document.{least_unknown, name_fault, bad_unless, number_at, table_checks, rows_at, host_checks, service_checks, host_lines, service_lines, line_of}
use Rattle.std.proofs.lemmas.List.{append_assoc}
use Rattle.gate_config.proofs.CheckSteps.{pass_both, fails_late, flat_map-map}

abbrev pub KnowsKeys : List Key → Members → Type 0
KnowsKeys keys table = least_unknown keys table ≡ None

abbrev pub IsNamed : Members → Type 0
IsNamed table = name_fault Name (value_at table Name) ≡ None

pub host_passes : (table : Members) (threshold : ℕ) (rows : List Data) → KnowsKeys host_keys table → IsNamed table
    → number_at table Freshness ≡ Some threshold → tables_or_none (value_at table Service) ≡ Some rows
    → AllPass (table_checks host_keys table)
host_passes table threshold rows known named fresh tables =
    (ap (option_map UnknownKey) known, (named, (ap (bad_unless Freshness) fresh, (ap (bad_unless Service) tables, tt))))

lines_of_parts : (name : List ℕ) (threshold : ℕ) (services : List Value) (named : Option (List ℕ)) (fresh : Option ℕ) (rows : Option (List Data))
    → named ≡ Some name → fresh ≡ Some threshold → rows ≡ Some (map view services)
    → line_of (unwrap_or named []) None (unwrap_or fresh 0) ∷ flat_map (λ row. service_lines (unwrap_or named []) (as_table row)) (unwrap_or rows [])
    ≡ line_of name None threshold ∷ flat_map (λ row. service_lines name (as_table (view row))) services
lines_of_parts name threshold services named fresh rows is_named is_fresh are_rows =
    rw (is_named, is_fresh, are_rows)
    (ap (λ rest. line_of name None threshold ∷ rest) (flat_map-map (λ row. service_lines name (as_table row)) view services))

pub host_lines_are : (table : Members) (name : List ℕ) (threshold : ℕ) (services : List Value)
    → option_and_then as_str (value_at table Name) ≡ Some name → number_at table Freshness ≡ Some threshold
    → tables_or_none (value_at table Service) ≡ Some (map view services)
    → host_lines (Some table) ≡ line_of name None threshold ∷ flat_map (λ row. service_lines name (as_table (view row))) services
host_lines_are table name threshold services named fresh tables =
    lines_of_parts name threshold services _ _ _ named fresh tables

-- the lines of a host after those before it
pub host_pushed : (row : Option Members) (table : Members) (name : List ℕ) (threshold : ℕ) (services : List Value) (old pushed new : List ObjectLine) (line : ObjectLine)
    → Some table ≡ row → option_and_then as_str (value_at table Name) ≡ Some name → number_at table Freshness ≡ Some threshold
    → tables_or_none (value_at table Service) ≡ Some (map view services) → line ≡ line_of name None threshold → pushed ≡ old ++ line ∷ []
    → new ≡ pushed ++ flat_map (λ row. service_lines name (as_table (view row))) services → new ≡ old ++ host_lines row
host_pushed row table name threshold services old pushed new line is named fresh tables is_line is_pushed is_new =
    let rest : List ObjectLine = flat_map (λ row. service_lines name (as_table (view row))) services in
    is_new ∙ ap (λ lines. lines ++ rest) (is_pushed ∙ ap (λ one. old ++ one ∷ []) is_line)
    ∙ append_assoc old (line_of name None threshold ∷ []) rest
    ∙ ap (λ lines. old ++ lines) (sym (host_lines_are table name threshold services named fresh tables) ∙ ap host_lines is)

services_same : (table : Members) (services : List Value) → tables_or_none (value_at table Service) ≡ Some (map view services)
    → flat_map (λ row. service_checks (as_table (view row))) services ≡ flat_map (λ row. service_checks (as_table row)) (rows_at table Service)
services_same table services tables =
    sym (flat_map-map (λ row. service_checks (as_table row)) view services)
    ∙ ap (flat_map (λ row. service_checks (as_table row))) (sym (ap (λ rows. unwrap_or rows []) tables))

pub host_passed : (row : Option Members) (table : Members) (threshold : ℕ) (services : List Value) → Some table ≡ row → KnowsKeys host_keys table
    → IsNamed table → number_at table Freshness ≡ Some threshold → tables_or_none (value_at table Service) ≡ Some (map view services)
    → AllPass (flat_map (λ row. service_checks (as_table (view row))) services) → AllPass (host_checks row)
host_passed row table threshold services is known named fresh tables all =
    let P : Option Members → Type 0 = λ found. AllPass (host_checks found) in
    subst P is (pass_both (table_checks host_keys table) _ (host_passes table threshold _ known named fresh tables) (subst AllPass (services_same table services tables) all))

pub host_failed : (row : Option Members) (table : Members) (threshold : ℕ) (services : List Value) (fault : ConfigFault) → Some table ≡ row → KnowsKeys host_keys table
    → IsNamed table → number_at table Freshness ≡ Some threshold → tables_or_none (value_at table Service) ≡ Some (map view services)
    → FirstFails (flat_map (λ row. service_checks (as_table (view row))) services) fault → FirstFails (host_checks row) fault
host_failed row table threshold services fault is known named fresh tables fails =
    let P : Option Members → Type 0 = λ found. FirstFails (host_checks found) fault in
    let Q : List Check → Type 0 = λ checks. FirstFails checks fault in
    subst P is (fails_late (table_checks host_keys table) _ fault (host_passes table threshold _ known named fresh tables) (subst Q (services_same table services tables) fails))
