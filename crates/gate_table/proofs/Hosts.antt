-- A service's host is in its table.
use Rattle.std.proofs.Common.{◌≡◌, ℕ, ◌+◌, Bool, true, not, List, ◌++◌, take, drop, Option, Some, None, is_some, is_none, refl, sym, ap, ◌∙◌, inl, inr, if◌then◌else◌}
use Rattle.std.specs.Prelude.{count_by, nat_lt}
use Rattle.std.specs.List.{position_from}
use Rattle.std.proofs.lemmas.Bool.{cases_Bool, cond-true, cond-false, true≢false}
use Rattle.std.proofs.lemmas.List.{take-append-drop}
use Rattle.gate_model.specs.declared.object.ObjectLine.{ObjectLine}
use Rattle.gate_table.specs.declared.table.TableFault.TheVariants.{BadName, NoSuchHost, DuplicateService, TooMany}
use Rattle.gate_model.specs.Table.{is_line_of, place_of, has_object, is_host_line, is_service_line_of}
use Rattle.gate_table.specs.Faults.{is_named, host_fault, service_fault, line_fault, line_fault_at, IsFaultless}
use Rattle.gate_model.proofs.Lists.{none_is_not_some, position_from-found, position_from-more}
use Rattle.gate_table.proofs.KeySteps.{line_decides}

-- a line without a fault is named
named : (before : List ObjectLine) (number : ℕ) (line : ObjectLine) → line_fault before number line ≡ None → is_named line ≡ true
named before number line e = elim (cases_Bool (is_named line)) [
  | inl holds ↦ holds
  | inr fails ↦ absurd (none_is_not_some (BadName number) (sym e ∙ cond-true (not (is_named line)) (Some (BadName number)) (if is_host_line line then host_fault before number line else service_fault before number line) (ap not fails)))
]

-- a service's line without a fault is after its host's
host_before : (before : List ObjectLine) (number : ℕ) (line : ObjectLine) (service : List ℕ) → line.service ≡ Some service → line_fault before number line ≡ None → has_object before line.host None ≡ true
host_before before number line service is e =
    let known : service_fault before number line ≡ None =
    sym (cond-false (not (is_named line)) (Some (BadName number)) (if is_host_line line then host_fault before number line else service_fault before number line) (ap not (named before number line e)) ∙ cond-false (is_host_line line) (host_fault before number line) (service_fault before number line) (ap is_none is)) ∙ e in
    elim (cases_Bool (has_object before line.host None)) [
      | inl holds ↦ holds
      | inr fails ↦ absurd (none_is_not_some (NoSuchHost number) (sym known ∙ cond-true (not (has_object before line.host None)) (Some (NoSuchHost number)) (if has_object before line.host line.service then Some (DuplicateService number) else (if nat_lt (count_by (is_service_line_of line.host) before) 1024 then None else Some (TooMany number))) (ap not fails)))
    ]

-- what is found in the first elements is found in all
found-more : {A : Type 0} (test : A → Bool) (xs ys : List A) (found : Option ℕ) → position_from test 0 xs ≡ found → is_some found ≡ true → is_some (position_from test 0 (xs ++ ys)) ≡ true
found-more test xs ys None e some = absurd (true≢false (sym some))
found-more test xs ys (Some p) e some = ap is_some (position_from-more test 0 xs ys p e)

-- the host of an object is in the table
pub has_object-host : (lines : List ObjectLine) (host : List ℕ) (service : Option (List ℕ)) (place : ℕ) → IsFaultless lines → place_of lines host service ≡ Some place → has_object lines host None ≡ true
has_object-host lines host None place good e = ap is_some e
has_object-host lines host (Some name) place good e =
    let found = position_from-found (is_line_of host (Some name)) lines place e in
    let names = (line_decides host (Some name) found.0).0 found.2 in
    let faultless : line_fault (take place lines) (place + 1) found.0 ≡ None = sym (ap (line_fault_at lines place) found.1) ∙ good.each place in
    let before : has_object (take place lines) host None ≡ true = sym (ap (λ (h : List ℕ). has_object (take place lines) h None) names.0) ∙ host_before (take place lines) (place + 1) found.0 name names.1 faultless in
    sym (ap (λ (all : List ObjectLine). has_object all host None) (take-append-drop place lines))
    ∙ found-more (is_line_of host None) (take place lines) (drop place lines) (place_of (take place lines) host None) refl before
