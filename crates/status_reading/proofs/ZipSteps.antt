-- The end of a loop over two lists at once.
use Rattle.std.proofs.Common.{◌≡◌, ◌⊎◌, List, [], ◌∷◌, ◌++◌, map, refl, sym, ap, ◌∙◌, inl, inr, append-nil}
use Rattle.std.specs.List.{flat_map, zip}

zip_none : {A B : Type 0} (xs : List A) (ys : List B) → (xs ≡ []) ⊎ (ys ≡ []) → zip xs ys ≡ []
zip_none xs ys (inl none) = rw none refl
zip_none [] ys (inr none) = refl
zip_none (x ∷ xs) ys (inr none) = rw none refl

-- nothing is left once one of them has ended
pub zip_over : {A B C : Type 0} (f : A × B → List C) (out whole : List C) (xs : List A) (ys : List B)
    → (xs ≡ []) ⊎ (ys ≡ []) → out ++ flat_map f (zip xs ys) ≡ whole → out ≡ whole
zip_over f out whole xs ys over is =
    sym (append-nil out) ∙ sym (ap (λ (left : List (_ × _)). out ++ flat_map f left) (zip_none xs ys over)) ∙ is

pub map_over : {X Y A B : Type 0} (f : X → A) (g : Y → B) (xs : List X) (ys : List Y)
    → (xs ≡ []) ⊎ (ys ≡ []) → (map f xs ≡ []) ⊎ (map g ys ≡ [])
map_over f g xs ys (inl none) = inl (ap (map f) none)
map_over f g xs ys (inr none) = inr (ap (map g) none)
