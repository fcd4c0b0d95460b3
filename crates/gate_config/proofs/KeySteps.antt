-- The first unknown key of a map is the least.
use Rattle.std.proofs.Common.{◌≡◌, ℕ, not, List, [], ◌∷◌, Option, Some, None, option_map, String, Global, string_bytes, Ordering, Less, Equal, Greater, nat_cmp, refl, ap, sym, inl, inr}
use Rattle.std.proofs.lemmas.Bool.{cases_Bool}
use Rattle.std.specs.Prelude.{find, ⊤, MatchOption}
use Rattle.std.specs.Cmp.Lexicographic.{slice_cmp}
use Rattle.std.specs.List.{AllByRecursion}
use Rattle.std.specs.List.Sorted.{IsStrictlySortedBy}
use Rattle.std.specs.Map.{keys_of}
use Rattle.std.specs.Ordering.{match_ordering}
use Rattle.std.specs.String.{string_cmp}
use Rattle.toml.specs.View.{members_view}
use Rattle.toml.proofs.Views.{Entry}
use Rattle.gate_config.specs.declared.key.Key.{Key}
use Rattle.gate_config.specs.Document.{is_key, lesser, least_unknown}

-- a text comes before the other, if there is one
abbrev IsBefore : List ℕ → Option (List ℕ) → Type 0
IsBefore text other = MatchOption other ⊤ (λ found. slice_cmp nat_cmp text found ≡ Less)

lesser_of : (text key found : List ℕ) (order : Ordering) → slice_cmp nat_cmp text key ≡ Less → slice_cmp nat_cmp text found ≡ Less
    → slice_cmp nat_cmp text (match_ordering order key key found) ≡ Less
lesser_of text key found Less before_key before_found = before_key
lesser_of text key found Equal before_key before_found = before_key
lesser_of text key found Greater before_key before_found = before_found

before_lesser : (text key : List ℕ) (other : Option (List ℕ)) → slice_cmp nat_cmp text key ≡ Less → IsBefore text other
    → slice_cmp nat_cmp text (lesser key other) ≡ Less
before_lesser text key None before_key _ = before_key
before_lesser text key (Some found) before_key before_found =
    lesser_of text key found (slice_cmp nat_cmp key found) before_key before_found

-- a text before all keys is before the least unknown one
before_unknown : (known : List Key) (text : String Global) (es : List Entry) → AllByRecursion (λ y. string_cmp text y ≡ Less) (keys_of es)
    → IsBefore (string_bytes text) (least_unknown known (members_view es))
before_unknown known text [] _ = tt
before_unknown known text (e ∷ es) all =
    elim (cases_Bool (is_key known (string_bytes e.0))) [
      | inl is ↦ rw is (before_unknown known text es all.1)
      | inr not_one ↦ rw not_one (before_lesser (string_bytes text) (string_bytes e.0) (least_unknown known (members_view es)) all.0
          (before_unknown known text es all.1))
    ]

lesser_before : (text : List ℕ) (other : Option (List ℕ)) → IsBefore text other → lesser text other ≡ text
lesser_before text None _ = refl
lesser_before text (Some found) before = rw before

pub first_is_least : (known : List Key) (es : List Entry) → IsStrictlySortedBy string_cmp (keys_of es)
    → option_map string_bytes (find (λ text. not (is_key known (string_bytes text))) (keys_of es)) ≡ least_unknown known (members_view es)
unfolding IsStrictlySortedBy
first_is_least known [] _ = refl
first_is_least known (e ∷ es) sorted =
    elim (cases_Bool (is_key known (string_bytes e.0))) [
      | inl is ↦ rw is (first_is_least known es sorted.1)
      | inr not_one ↦ rw not_one (ap Some (sym (lesser_before (string_bytes e.0) _ (before_unknown known e.0 es sorted.0))))
    ]
