-- The rows of a key, as a map of groups has them, are those that a filter leaves.
use Rattle.std.proofs.Common.{◌≡◌, List, [], ◌∷◌, Bool, refl, ◌∙◌, inl, inr, filter, unwrap_or}
use Rattle.std.proofs.lemmas.Bool.{cases_Bool}
use Rattle.itertools.specs.Consumer.{group_of, keyed, values_of, some_list}

from_some_list : {A : Type 0} (xs : List A) → unwrap_or (some_list xs) [] ≡ xs
from_some_list [] = refl
from_some_list (x ∷ xs) = refl

module _ {R K : Type 0} (eq : K → K → Bool) (key : R → K) where
  values-filter : (k : K) (rows : List R) → values_of (λ other. eq other k) (keyed key rows) ≡ filter (λ row. eq (key row) k) rows
  values-filter k [] = refl
  values-filter k (row ∷ rows) = elim (cases_Bool (eq (key row) k)) [
    | inl hit ↦ rw (hit, values-filter k rows) refl
    | inr miss ↦ rw (miss, values-filter k rows) refl
  ]

  pub group-filter : (k : K) (rows : List R) → unwrap_or (group_of eq (keyed key rows) k) [] ≡ filter (λ row. eq (key row) k) rows
  group-filter k rows = from_some_list (values_of (λ other. eq other k) (keyed key rows)) ∙ values-filter k rows
