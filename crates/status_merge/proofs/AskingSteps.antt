-- What is asked for is kept pair by pair: the value of the last pair of a name.
use Rattle.std.proofs.Common.{◌≡◌, ℕ, ◌<◌, ◌^◌, string_bytes, ap, List, [], ◌∷◌, Bool, true, false, ◌&&◌, nat_lt, if◌then◌else◌, Option, Some, None, refl, ◌∙◌, map, inl, inr, filter, unwrap_or, length}
use Rattle.std.specs.List.{last_or}
use Rattle.std.specs.Option.{option_map_or}
use Rattle.std.specs.Str.{bytes_eq, all_ascii_digits}
use Rattle.std.specs.Str.Parse.{IsNumeral, digits_value, without_leading_plus}
use Rattle.std.proofs.lemmas.Bool.{cases_Bool, lt-ltb, ltb-true}
use Rattle.std.proofs.lemmas.Str.Parse.{IsNumeralModel, numerals_by_value, tells_all_ascii_digits}
use Rattle.status_merge.specs.declared.query.Query.{Query}
use Rattle.status_merge.specs.Asking.{Asked, are_digits, number_of, text_of, value_of, text_asked, choice_of, mark_of, asked_in, asked_by}

-- what is asked for after these pairs, where f reads the value of this name
abbrev pub after : {B : Type 0} → (List ℕ → B) → List ℕ → B → List (List ℕ × List ℕ) → B
after f name known [] = known
after f name known (pair ∷ pairs) = after f name (if bytes_eq (text_of pair.0) name then f (text_of pair.1) else known) pairs

module _ {B : Type 0} (f : List ℕ → B) where
  last-any : (values : List (List ℕ)) (value : List ℕ) (one other : B) → option_map_or f (last_or (Some value) values) one ≡ option_map_or f (last_or (Some value) values) other
  last-any [] value one other = refl
  last-any (next ∷ values) value one other = last-any values next one other

  last-first : (values : List (List ℕ)) (value : List ℕ) (known : B) → option_map_or f (last_or None values) (f value) ≡ option_map_or f (last_or (Some value) values) known
  last-first [] value known = refl
  last-first (next ∷ values) value known = last-any values next (f value) known

  pub after-value : (name : List ℕ) (pairs : List (List ℕ × List ℕ)) (known : B) → after f name known pairs ≡ option_map_or f (value_of name pairs) known
  after-value name [] known = refl
  after-value name (pair ∷ pairs) known = elim (cases_Bool (bytes_eq (text_of pair.0) name)) [
    | inl hit ↦
        rw (hit, after-value name pairs (f (text_of pair.1)))
        (last-first (map (λ (next : List ℕ × List ℕ). text_of next.1) (filter (λ next. bytes_eq (text_of next.0) name) pairs)) (text_of pair.1) known)
    | inr miss ↦ rw (miss, after-value name pairs known) refl
  ]

map_or-unwrap : (value : Option (List ℕ)) (known : List ℕ) → option_map_or (λ text. text) value known ≡ unwrap_or value known
map_or-unwrap None known = refl
map_or-unwrap (Some text) known = refl

pub after-text : (name : List ℕ) (pairs : List (List ℕ × List ℕ)) (known : List ℕ) → known ≡ []
    → after (λ text. text) name known pairs ≡ text_asked name pairs
after-text name pairs known none =
    after-value (λ text. text) name pairs known
    ∙ map_or-unwrap (value_of name pairs) known
    ∙ ap (unwrap_or (value_of name pairs)) none

-- what is asked for, field by field
pub all-asked : (query : Query) (asked : Asked) → query.choice ≡ asked.choice
    → (string_bytes query.host ≡ asked.host) × (string_bytes query.service ≡ asked.service)
    × (string_bytes query.output ≡ asked.output) × (query.hostname.items ≡ asked.hostname)
    × (string_bytes query.gateway ≡ asked.gateway)
    → query.acknowledged ≡ asked.acknowledged → query.downtime ≡ asked.downtime
    → asked_by query ≡ asked
all-asked query asked choice texts acknowledged downtime =
    rw (choice, texts.0, texts.1, texts.2, texts.3, texts.4, acknowledged, downtime) refl

-- ---- the seconds of a text

digits_own : IsNumeralModel (λ ds. all_ascii_digits ds ≡ true) (digits_value 10)
digits_own = numerals_by_value (λ ds. all_ascii_digits ds ≡ true) tells_all_ascii_digits

both : (one other : Bool) → one && other ≡ true → (one ≡ true) × (other ≡ true)
both true true e = (refl, refl)
both true false e = cc
both false other e = cc

-- the number of a text that is read as one
pub number-Ok : (text : List ℕ) (number : ℕ) → (IsNumeral 10 (without_leading_plus text) × (digits_value 10 (without_leading_plus text) < 2 ^ 32)) × (number ≡ digits_value 10 (without_leading_plus text)) → Some number ≡ number_of text
number-Ok text number parses =
    let digits = without_leading_plus text in
    let are : are_digits digits ≡ true =
    rw (lt-ltb _ _ parses.0.0.0, digits_own.from digits parses.0.0.1, lt-ltb _ _ parses.0.1) refl in
    rw (are, parses.1) refl

-- and of another
pub number-Err : (text : List ℕ) → ¬ (IsNumeral 10 (without_leading_plus text) × (digits_value 10 (without_leading_plus text) < 2 ^ 32)) → None ≡ number_of text
number-Err text fails = elim (cases_Bool (are_digits (without_leading_plus text))) [
  | inl are ↦
      let digits = without_leading_plus text in
      let parts = both (nat_lt 0 (length digits)) _ are in
      let more = both (all_ascii_digits digits) _ parts.1 in
      absurd (fails ((ltb-true _ _ parts.0, digits_own.to digits more.0), ltb-true _ _ more.1))
  | inr other ↦ rw other refl
]
