-- A faultless table without its thresholds is the table of the objects that its gateway shows.
use Rattle.std.proofs.Common.{◌≡◌, ℕ, zero, suc, ◌+◌, ◌<◌, ◌==◌, Bool, true, false, not, cond, List, [], ◌∷◌, ◌++◌, map, length, take, drop, Option, Some, None, is_some, is_none, refl, sym, ap, ◌∙◌, arith, inl, inr}
use Rattle.std.specs.Prelude.{slice_get, count_by, nat_lt, option_map, if◌then◌else◌}
use Rattle.std.specs.List.{position_from}
use Rattle.std.proofs.lemmas.Bool.{cases_Bool, cond-true, cond-false, and_parts, not-true, true≢false}
use Rattle.std.proofs.lemmas.List.{take-map, length-take, length-map}
use Rattle.std.proofs.lemmas.List.Sums.{sum_by-cons}
use Rattle.std.proofs.lemmas.Option.{slice_get-map, slice_get_within}
use Rattle.gate_model.specs.declared.object.ObjectLine.{ObjectLine}
use Rattle.gate_table.specs.declared.table.TableFault.{TableFault}
use Rattle.gate_table.specs.declared.table.TableFault.TheVariants.{BadName, NoSuchHost, DuplicateHost, DuplicateService, TooMany}
use Rattle.gate_model.specs.Escaping.{escaped}
use Rattle.gate_table.specs.Names.{is_name}
use Rattle.gate_model.specs.Table.{is_line_of, place_of, has_object, is_host_line, is_service_line_of}
use Rattle.gate_table.specs.Faults.{is_service_name, is_named, host_fault, service_fault, line_fault, line_fault_at, IsFaultless}
use Rattle.gate_model.proofs.Lists.{none_is_not_some, some_is, none_from_is_some, position_from-map, position_from-push, position_from-more, position_from-found}
use Rattle.gate_table.proofs.KeySteps.{line_decides}
use Rattle.gate_lines.specs.Lines.{service_text}
use Rattle.status_reading.specs.Plain.{plain_bytes}
use Rattle.status_reading.specs.RowFaults.{service_name}
use Rattle.status_reading.proofs.PlainLaws.{plain_escaped}

-- a line without its threshold
abbrev pub bare : ObjectLine → ObjectLine
bare line = record { host = line.host; service = line.service; threshold = 0 }

-- ---- what a page shows of names

named_text : (text name : List ℕ) → plain_bytes text ≡ name → 0 < length name → service_name text ≡ Some name
named_text [] name is some = absurd (omega (arith, ap length is, some))
named_text (byte ∷ rest) name is some = ap (λ (text : List ℕ). Some text) is

-- a service has a name of a byte or more
abbrev pub HasLength : Option (List ℕ) → Type 0
HasLength None = Unit {0}
HasLength (Some name) = 0 < length name

pub service_again : (service : Option (List ℕ)) → HasLength service → service_name (service_text service) ≡ service
service_again None some = refl
service_again (Some name) some = named_text (escaped name) name (plain_escaped name) some

some_length : (name : List ℕ) → (length name == 0) ≡ false → 0 < length name
some_length [] is = absurd (true≢false is)
some_length (byte ∷ rest) is = omega arith

name_length : (most : ℕ) (name : List ℕ) → is_name most name ≡ true → 0 < length name
name_length most name is =
    some_length name (not-true (length name == 0) (and_parts _ _ (and_parts _ _ (and_parts _ _ is).0).0).0)

service_length : (service : Option (List ℕ)) → is_service_name service ≡ true → HasLength service
service_length None is = tt
service_length (Some name) is = name_length 127 name is

-- a line without a fault is named
pub named : (before : List ObjectLine) (number : ℕ) (line : ObjectLine) → line_fault before number line ≡ None → is_named line ≡ true
named before number line e = elim (cases_Bool (is_named line)) [
  | inl holds ↦ holds
  | inr fails ↦ absurd (none_is_not_some (BadName number) (sym e ∙ cond-true (not (is_named line)) (Some (BadName number)) (if is_host_line line then host_fault before number line else service_fault before number line) (ap not fails)))
]

pub line_length : (table : List ObjectLine) (place : ℕ) (line : ObjectLine) → IsFaultless table → slice_get table place ≡ Some line → HasLength line.service
line_length table place line good is =
    let faultless : line_fault (take place table) (place + 1) line ≡ None = sym (ap (line_fault_at table place) is) ∙ good.each place in
    service_length line.service (and_parts _ _ (named (take place table) (place + 1) line faultless)).1

-- ---- a table without thresholds

count-map : (test : ObjectLine → Bool) → ((line : ObjectLine) → test (bare line) ≡ test line) → (lines : List ObjectLine)
    → count_by test (map bare lines) ≡ count_by test lines
count-map test same [] = refl
count-map test same (line ∷ lines) =
    sum_by-cons (λ (one : ObjectLine). cond (test one) 1 0) (bare line) (map bare lines)
    ∙ ap (λ (holds : Bool). cond holds 1 0 + count_by test (map bare lines)) (same line)
    ∙ ap (λ count. cond (test line) 1 0 + count) (count-map test same lines)
    ∙ sym (sum_by-cons (λ (one : ObjectLine). cond (test one) 1 0) line lines)

pub bare_place : (table : List ObjectLine) (host : List ℕ) (service : Option (List ℕ)) → place_of (map bare table) host service ≡ place_of table host service
bare_place table host service = position_from-map bare (is_line_of host service) 0 table

bare_line_fault : (before : List ObjectLine) (number : ℕ) (line : ObjectLine) → line_fault (map bare before) number (bare line) ≡ line_fault before number line
bare_line_fault before number line =
    let has = λ (service : Option (List ℕ)). ap is_some (bare_place before line.host service) in
    let hosts = count-map is_host_line (λ (one : ObjectLine). refl) before in
    let services = count-map (is_service_line_of line.host) (λ (one : ObjectLine). refl) before in
    λ i.
    if not (is_named line) then Some (BadName number)
    else (if is_host_line line
    then (if has None i then Some (DuplicateHost number) else (if nat_lt (hosts i) 1024 then None else Some (TooMany number)))
    else (if not (has None i) then Some (NoSuchHost number)
    else (if has line.service i then Some (DuplicateService number)
    else (if nat_lt (services i) 1024 then None else Some (TooMany number)))))

bare_fault : (lines : List ObjectLine) (index : ℕ) (found : Option ObjectLine)
    → line_fault_at (map bare lines) index (option_map bare found) ≡ line_fault_at lines index found
bare_fault lines index None = refl
bare_fault lines index (Some line) =
    ap (λ (before : List ObjectLine). line_fault before (index + 1) (bare line)) (take-map bare index lines)
    ∙ bare_line_fault (take index lines) (index + 1) line

pub bare_faultless : (table : List ObjectLine) → IsFaultless table → IsFaultless (map bare table)
bare_faultless table good = record {
  few = omega (arith, good.few, length-map table bare);
  each = λ index.
      ap (line_fault_at (map bare table) index) (slice_get-map bare table index)
      ∙ bare_fault table index (slice_get table index) ∙ good.each index;
}

-- ---- an object is found at its own place

known_not : (known : Bool) (fault : TableFault) (rest : Option TableFault) → (if known then Some fault else rest) ≡ None → known ≡ false
known_not true fault rest is = cc
known_not false fault rest is = refl

rest_of : (known : Bool) (fault : TableFault) (rest : Option TableFault) → (if known then Some fault else rest) ≡ None → rest ≡ None
rest_of true fault rest is = cc
rest_of false fault rest is = is

new_object : (before : List ObjectLine) (number : ℕ) (line : ObjectLine) (service : Option (List ℕ)) → line.service ≡ service
    → line_fault before number line ≡ None → has_object before line.host service ≡ false
new_object before number line None is e =
    let known : host_fault before number line ≡ None =
    sym (cond-true (is_host_line line) (host_fault before number line) (service_fault before number line) (ap is_none is))
    ∙ rest_of (not (is_named line)) (BadName number) _ e in
    known_not (has_object before line.host None) (DuplicateHost number) _ known
new_object before number line (Some name) is e =
    let known : service_fault before number line ≡ None =
    sym (cond-false (is_host_line line) (host_fault before number line) (service_fault before number line) (ap is_none is))
    ∙ rest_of (not (is_named line)) (BadName number) _ e in
    let absent = known_not (has_object before line.host line.service) (DuplicateService number) _ (rest_of (not (has_object before line.host None)) (NoSuchHost number) _ known) in
    sym (ap (has_object before line.host) is) ∙ absent

pub own_place : (table : List ObjectLine) (place : ℕ) (line : ObjectLine) → IsFaultless table → slice_get table place ≡ Some line
    → place_of table line.host line.service ≡ Some place
own_place table place line good is =
    let within = slice_get_within table place line is in
    let faultless : line_fault (take place table) (place + 1) line ≡ None = sym (ap (line_fault_at table place) is) ∙ good.each place in
    let test = is_line_of line.host line.service in
    let before = none_from_is_some (place_of (take place table) line.host line.service) (new_object (take place table) (place + 1) line line.service refl faultless) in
    let here : test line ≡ true = (line_decides line.host line.service line).1 (refl, refl) in
    let count : 0 + length (take place table) ≡ place = omega (arith, length-take place table, within) in
    let first : position_from test 0 (take place table ++ line ∷ []) ≡ Some place =
    position_from-push test 0 (take place table) line before
    ∙ cond-true (test line) (Some (0 + length (take place table))) None here
    ∙ ap (λ (index : ℕ). Some index) count in
    let whole : table ≡ (take place table ++ line ∷ []) ++ drop (suc place) table = whole_at table place line is in
    ap (λ (lines : List ObjectLine). position_from test 0 lines) whole
    ∙ position_from-more test 0 (take place table ++ line ∷ []) (drop (suc place) table) place first
  where
    whole_at : {A : Type 0} (list : List A) (index : ℕ) (one : A) → slice_get list index ≡ Some one
        → list ≡ (take index list ++ one ∷ []) ++ drop (suc index) list
    whole_at [] index one is = absurd (none_is_not_some one is)
    whole_at (first ∷ list) zero one is = ap (λ x. x ∷ list) (some_is first one is)
    whole_at (first ∷ list) (suc index) one is = ap (λ rest. first ∷ rest) (whole_at list index one is)

-- the object that is found at a place has its line there
pub found_line : (table : List ObjectLine) (host : List ℕ) (service : Option (List ℕ)) (place : ℕ) → place_of table host service ≡ Some place
    → (line : ObjectLine) × (slice_get table place ≡ Some line) × (line.service ≡ service)
found_line table host service place is =
    let found = position_from-found (is_line_of host service) table place is in
    let names = (line_decides host service found.0).0 found.2 in
    (found.0, found.1, names.1)
