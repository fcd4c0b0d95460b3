-- Lists by index: after a write, and after their first elements.
use Rattle.std.proofs.Common.{◌≡◌, ◌≢◌, ℕ, zero, suc, List, [], ◌∷◌, ◌++◌, length, drop, Some, None, refl, ap}
use Rattle.std.specs.Prelude.{slice_get, slice_set}

-- the index of a write has what was written
pub slice_get-set_same : {X : Type 0} (xs : List X) (index : ℕ) (x y : X) → slice_get xs index ≡ Some x → slice_get (slice_set xs index y) index ≡ Some y
slice_get-set_same [] index x y e = absurd (cc)
slice_get-set_same (z ∷ zs) zero x y e = refl
slice_get-set_same (z ∷ zs) (suc index) x y e = slice_get-set_same zs index x y e

-- each other index has what it had
pub slice_get-set_other : {X : Type 0} (xs : List X) (index other : ℕ) (y : X) → other ≢ index → slice_get (slice_set xs index y) other ≡ slice_get xs other
slice_get-set_other [] index other y ne = refl
slice_get-set_other (z ∷ zs) zero zero y ne = absurd (ne refl)
slice_get-set_other (z ∷ zs) zero (suc other) y ne = refl
slice_get-set_other (z ∷ zs) (suc index) zero y ne = refl
slice_get-set_other (z ∷ zs) (suc index) (suc other) y ne = slice_get-set_other zs index other y (λ e. ne (ap suc e))

-- after a front there is the rest
pub drop-front : {X : Type 0} (xs ys : List X) → drop (length xs) (xs ++ ys) ≡ ys
drop-front [] ys = refl
drop-front (x ∷ xs) ys = drop-front xs ys

-- the first element of the rest is at the front's length
pub slice_get-front : {X : Type 0} (xs ys : List X) → slice_get (xs ++ ys) (length xs) ≡ slice_get ys 0
slice_get-front [] ys = refl
slice_get-front (x ∷ xs) ys = slice_get-front xs ys

-- a list that has a first element has a rest too
pub first_and_rest : {X : Type 0} (xs : List X) (x : X) → slice_get xs 0 ≡ Some x → xs ≡ x ∷ drop 1 xs
first_and_rest [] x e = absurd (cc)
first_and_rest (z ∷ zs) x e = let same : z ≡ x = cc in ap (λ y. y ∷ zs) same

-- a list without a first element is empty
pub no_first : {X : Type 0} (xs : List X) → slice_get xs 0 ≡ None → xs ≡ []
no_first [] e = refl
no_first (z ∷ zs) e = absurd (cc)
