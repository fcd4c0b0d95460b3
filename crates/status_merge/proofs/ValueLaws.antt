-- The value of a name, pair by pair.
use Rattle.std.proofs.Common.{◌≡◌, ℕ, List, [], ◌∷◌, Some, None, unwrap_or, refl, map, inl, inr, filter, if◌then◌else◌}
use Rattle.std.specs.List.{last_or}
use Rattle.std.specs.Str.{bytes_eq}
use Rattle.std.proofs.lemmas.Bool.{cases_Bool}
use Rattle.form_urlencoded.specs.Form.{decode}
use Rattle.status_merge.specs.Values.{value_in}

-- what is known of this name after these pairs
abbrev pub after : List ℕ → List ℕ → List (List ℕ × List ℕ) → List ℕ
after name known [] = known
after name known (pair ∷ pairs) =
    after name (if bytes_eq (decode pair.0) name then decode pair.1 else known) pairs

last-any : (values : List (List ℕ)) (value one other : List ℕ)
    → unwrap_or (last_or (Some value) values) one ≡ unwrap_or (last_or (Some value) values) other
last-any [] value one other = refl
last-any (next ∷ values) value one other = last-any values next one other

last-first : (values : List (List ℕ)) (value known : List ℕ)
    → unwrap_or (last_or None values) value ≡ unwrap_or (last_or (Some value) values) known
last-first [] value known = refl
last-first (next ∷ values) value known = last-any values next value known

abbrev pub values : List ℕ → List (List ℕ × List ℕ) → List (List ℕ)
values name pairs =
    map (λ (pair : List ℕ × List ℕ). decode pair.1) (filter (λ pair. bytes_eq (decode pair.0) name) pairs)

after-known : (name : List ℕ) (pairs : List (List ℕ × List ℕ)) (known : List ℕ)
    → after name known pairs ≡ unwrap_or (last_or None (values name pairs)) known
after-known name [] known = refl
after-known name (pair ∷ pairs) known = elim (cases_Bool (bytes_eq (decode pair.0) name)) [
  | inl hit ↦
      rw (hit, after-known name pairs (decode pair.1))
      (last-first (values name pairs) (decode pair.1) known)
  | inr miss ↦ rw (miss, after-known name pairs known) refl
]

pub after-value : (name : List ℕ) (pairs : List (List ℕ × List ℕ))
    → after name [] pairs ≡ value_in name pairs
after-value name pairs = after-known name pairs []
