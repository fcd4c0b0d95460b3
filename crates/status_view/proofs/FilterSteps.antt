-- A filter of values, by what they stand for.
use Rattle.std.proofs.Common.{◌≡◌, List, [], ◌∷◌, Bool, refl, ap, map, inl, inr, filter}
use Rattle.std.proofs.lemmas.Bool.{cases_Bool}

-- what a filter leaves stands for what it leaves of what they stand for
pub map-filter : {X Y : Type 0} (view : X → Y) (test : Y → Bool) (items : List X)
    → map view (filter (λ item. test (view item)) items) ≡ filter test (map view items)
map-filter view test [] = refl
map-filter view test (item ∷ items) = elim (cases_Bool (test (view item))) [
  | inl hit ↦ rw hit (ap (λ rest. view item ∷ rest) (map-filter view test items))
  | inr miss ↦ rw miss (map-filter view test items)
]
