-- The fields that a page shows of an object find its row, and a row of no other object.
use Rattle.std.proofs.Common.{◌≡◌, ℕ, ◌+◌, ◌<◌, ◌&&◌, ◌||◌, Bool, true, false, not, List, [], ◌∷◌, map, length, Option, Some, None, is_some, refl, sym, ap, ◌∙◌, arith}
use Rattle.std.specs.Prelude.{slice_get, IfSome, if◌then◌else◌}
use Rattle.std.specs.List.{AllByRecursion, position_from, enumerate_from, list_any}
use Rattle.std.specs.Str.{bytes_eq}
use Rattle.std.proofs.lemmas.Bool.{false_from_ne_true, ne_eqb}
use Rattle.std.proofs.lemmas.Bool.Decides.{same_from_decides, Decides-like}
use Rattle.std.proofs.lemmas.Slice.Eq.{bytes_eq-Decides}
use Rattle.gate_model.specs.declared.record.Moment.{Moment}
use Rattle.gate_model.specs.declared.record.Record.{Record}
use Rattle.gate_model.specs.declared.record.Outcome.{Outcome}
use Rattle.gate_model.specs.declared.record.Outcome.TheVariants.{NoServices}
use Rattle.gate_model.specs.declared.object.Kind.TheVariants.{Host, Service}
use Rattle.gate_model.specs.declared.object.ObjectId.{ObjectId}
use Rattle.gate_model.specs.declared.object.ObjectLine.{ObjectLine}
use Rattle.gate_model.specs.Escaping.{escaped}
use Rattle.gate_model.specs.Table.{is_same_service, is_line_of, object_kind, object_at, is_service_line_of, services_from}
use Rattle.gate_table.specs.Faults.{IsFaultless}
use Rattle.gate_model.specs.Meaning as meaning
use Rattle.gate_table.proofs.ServiceSteps.{services-cons}
use Rattle.gate_pages.specs.Rows.{object_row}
use Rattle.gate_lines.specs.Lines.{service_text}
use Rattle.status_reading.specs.Plain.{plain_bytes}
use Rattle.status_reading.specs.Rows.{ObjectView}
use Rattle.status_reading.specs.Board.{shown_object}
use Rattle.status_reading.proofs.PlainLaws.{plain_escaped}
use Rattle.status_reading.proofs.BareSteps.{HasLength, line_length}
use Rattle.status_reading.proofs.EachSteps.{each_from_at}
use Rattle.page_changes.specs.Names.{shown_names, has_names, is_service, is_service_of, kind_of_field, row_with}
use Rattle.page_changes.specs.Foreseen.{outcome_of_row, as_shown}

-- ---- texts

escaped_once : (text other : List ℕ) → escaped text ≡ escaped other → text ≡ other
escaped_once text other same = sym (plain_escaped text) ∙ ap plain_bytes same ∙ plain_escaped other

pub shown_same : (text other : List ℕ) → bytes_eq (escaped text) (escaped other) ≡ bytes_eq text other
shown_same text other =
    same_from_decides (bytes_eq (escaped text) (escaped other)) (bytes_eq text other) (bytes_eq-Decides (escaped text) (escaped other))
    (Decides-like (bytes_eq text other) (λ same. ap escaped same) (escaped_once text other) (bytes_eq-Decides text other))

plain_length : (text name : List ℕ) → plain_bytes text ≡ name → 0 < length name → 0 < length text
plain_length [] name is some = absurd (omega (arith, ap length is, some))
plain_length (byte ∷ rest) name is some = omega arith

shown_length : (name : List ℕ) → 0 < length name → 0 < length (escaped name)
shown_length name some = plain_length (escaped name) name (plain_escaped name) some

is_service_text : (text : List ℕ) → 0 < length text → is_service text ≡ true
is_service_text [] some = absurd (omega (arith, some))
is_service_text (byte ∷ rest) some = ap not (ne_eqb (length (byte ∷ rest)) 0 (λ same. omega (arith, same)))

pub service_shown : (service : Option (List ℕ)) → HasLength service → is_service (service_text service) ≡ is_some service
service_shown None some = refl
service_shown (Some name) some = is_service_text (escaped name) (shown_length name some)

service_same : (service other : Option (List ℕ)) → HasLength service → HasLength other
    → bytes_eq (service_text service) (service_text other) ≡ is_same_service service other
service_same None None some more = (bytes_eq-Decides [] []).1 refl
service_same None (Some name) some more =
    false_from_ne_true _ (λ same. omega (arith, ap length ((bytes_eq-Decides [] (escaped name)).0 same), shown_length name more))
service_same (Some name) None some more =
    false_from_ne_true _ (λ same. omega (arith, ap length ((bytes_eq-Decides (escaped name) []).0 same), shown_length name some))
service_same (Some name) (Some other) some more = shown_same name other

names_same : (host : List ℕ) (service : Option (List ℕ)) (line : ObjectLine) → HasLength service → HasLength line.service
    → has_names (shown_names host service) (escaped line.host) (service_text line.service) ≡ is_line_of host service line
names_same host service line some more =
    ap (λ (same : Bool). same && bytes_eq (service_text line.service) (service_text service)) (shown_same line.host host)
    ∙ ap (λ (same : Bool). bytes_eq line.host host && same) (service_same line.service service more some)

pub kind_shown : (service : Option (List ℕ)) → HasLength service → kind_of_field (service_text service) ≡ object_kind service
kind_shown None some = refl
kind_shown (Some name) some = ap (λ (service : Bool). if service then Service else Host) (is_service_text (escaped name) (shown_length name some))

-- ---- a table

-- each service of a table has a name
abbrev pub AllNamed : List ObjectLine → Type 0
AllNamed lines = AllByRecursion (λ (line : ObjectLine). HasLength line.service) lines

pub all_named : (table : List ObjectLine) → IsFaultless table → AllNamed table
all_named table good = each_from_at (λ (line : ObjectLine). HasLength line.service) table (λ place. named place (slice_get table place) refl)
  where
    named : (place : ℕ) (found : Option ObjectLine) → slice_get table place ≡ found → IfSome found (λ (line : ObjectLine). HasLength line.service)
    named place None is = tt
    named place (Some line) is = line_length table place line good is

-- no line is that of a service with an empty name
pub no_line : (host name : List ℕ) → length name ≡ 0 → (place : ℕ) (lines : List ObjectLine) → AllNamed lines
    → position_from (is_line_of host (Some name)) place lines ≡ None
no_line host name none place [] all = refl
no_line host name none place (line ∷ lines) all =
    ap (λ (same : Bool). if bytes_eq line.host host && same then Some place else position_from (is_line_of host (Some name)) (place + 1) lines)
    (other line.service all.0)
    ∙ ap (λ (same : Bool). if same then Some place else position_from (is_line_of host (Some name)) (place + 1) lines) (never (bytes_eq line.host host))
    ∙ no_line host name none (place + 1) lines all.1
  where
    never : (test : Bool) → (test && false) ≡ false
    never true = refl
    never false = refl

    other : (service : Option (List ℕ)) → HasLength service → is_same_service service (Some name) ≡ false
    other None some = refl
    other (Some one) some = false_from_ne_true _ (λ same. omega (arith, ap length ((bytes_eq-Decides one name).0 same), some))

-- ---- the rows of a gateway's objects

module _ (table : List ObjectLine) (opening : Moment) (records : List Record) (moment : Moment) where
  abbrev pub row_at : ℕ → ObjectLine → ObjectView
  row_at place line = shown_object (object_row table opening records moment (place, line))

  abbrev pub rows_from : ℕ → List ObjectLine → List ObjectView
  rows_from place lines = map shown_object (map (object_row table opening records moment) (enumerate_from place lines))

  same_choice : (test : Bool) (row : ObjectView) (rest : Option ObjectView) (place : ℕ) (found : Option ℕ) → is_some rest ≡ is_some found
      → is_some (if test then Some row else rest) ≡ is_some (if test then Some place else found)
  same_choice true row rest place found same = refl
  same_choice false row rest place found same = same

  -- the table has an object of these names exactly where the page has a row
  pub found_same : (host : List ℕ) (service : Option (List ℕ)) → HasLength service → (place : ℕ) (lines : List ObjectLine) → AllNamed lines
      → is_some (row_with (shown_names host service) (rows_from place lines)) ≡ is_some (position_from (is_line_of host service) place lines)
  found_same host service some place [] all = refl
  found_same host service some place (line ∷ lines) all =
      let rest = row_with (shown_names host service) (rows_from (place + 1) lines) in
      ap (λ (test : Bool). is_some (if test then Some (row_at place line) else rest)) (names_same host service line some all.0)
      ∙ same_choice (is_line_of host service line) (row_at place line) rest place (position_from (is_line_of host service) (place + 1) lines)
      (found_same host service some (place + 1) lines all.1)

  -- ---- the object is judged as its row is

  module _ (judge : ObjectView → Outcome) (other : ℕ → Outcome)
      (each : (place : ℕ) (line : ObjectLine) → judge (row_at place line) ≡ as_shown (other place)) where
    chosen : (test : Bool) (row : ObjectView) (rest : Option ObjectView) (place : ℕ) (found : Option ℕ) → judge row ≡ as_shown (other place)
        → outcome_of_row judge rest ≡ as_shown (meaning.outcome_at_place other found)
        → outcome_of_row judge (if test then Some row else rest) ≡ as_shown (meaning.outcome_at_place other (if test then Some place else found))
    chosen true row rest place found here later = here
    chosen false row rest place found here later = later

    pub row_judged : (host : List ℕ) (service : Option (List ℕ)) → HasLength service → (place : ℕ) (lines : List ObjectLine) → AllNamed lines
        → outcome_of_row judge (row_with (shown_names host service) (rows_from place lines))
        ≡ as_shown (meaning.outcome_at_place other (position_from (is_line_of host service) place lines))
    row_judged host service some place [] all = refl
    row_judged host service some place (line ∷ lines) all =
        let rest = row_with (shown_names host service) (rows_from (place + 1) lines) in
        ap (λ (test : Bool). outcome_of_row judge (if test then Some (row_at place line) else rest)) (names_same host service line some all.0)
        ∙ chosen (is_line_of host service line) (row_at place line) rest place (position_from (is_line_of host service) (place + 1) lines)
        (each place line) (row_judged host service some (place + 1) lines all.1)

  -- ---- the services of a host

  service_of_host : (host : List ℕ) (line : ObjectLine) → HasLength line.service
      → is_service_of (escaped host) (escaped line.host) (service_text line.service) ≡ is_service_line_of host line
  service_of_host host line some =
      ap (λ (same : Bool). same && is_service (service_text line.service)) (shown_same line.host host)
      ∙ ap (λ (same : Bool). bytes_eq line.host host && same) (service_shown line.service some)

  services_choice : (test any : Bool) (one : ObjectId) (rest : List ObjectId) (plan : Outcome)
      → (if any then plan else NoServices) ≡ meaning.outcome_of_services rest plan
      → (if test || any then plan else NoServices) ≡ meaning.outcome_of_services (if test then one ∷ rest else rest) plan
  services_choice true any one rest plan same = refl
  services_choice false any one rest plan same = same

  pub services_judged : (host : List ℕ) (plan : Outcome) (place : ℕ) (lines : List ObjectLine) → AllNamed lines
      → (if list_any (λ (row : ObjectView). is_service_of (escaped host) row.host row.service) (rows_from place lines) then plan else NoServices)
      ≡ meaning.outcome_of_services (services_from host place lines) plan
  services_judged host plan place [] all = refl
  services_judged host plan place (line ∷ lines) all =
      let any = list_any (λ (row : ObjectView). is_service_of (escaped host) row.host row.service) (rows_from (place + 1) lines) in
      ap (λ (test : Bool). if test || any then plan else NoServices) (service_of_host host line all.0)
      ∙ services_choice (is_service_line_of host line) any (object_at Service place) (services_from host (place + 1) lines) plan
      (services_judged host plan (place + 1) lines all.1)
      ∙ ap (λ (services : List ObjectId). meaning.outcome_of_services services plan) (sym (services-cons host place line lines))
