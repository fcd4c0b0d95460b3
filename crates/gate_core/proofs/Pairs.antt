-- Two lists side by side, each longer by one.
use Rattle.std.proofs.Common.{◌≡◌, List, [], ◌∷◌, ◌++◌, length, refl, sym, ap, ◌∙◌, subst, arith}
use Rattle.std.specs.Prelude.{All, zip, reverse}
use Rattle.std.proofs.lemmas.List.{reverse-append}
use Rattle.std.proofs.lemmas.List.Elements.{All-push}

zip-push : {X Y : Type 0} (xs : List X) (ys : List Y) (x : X) (y : Y) → length xs ≡ length ys → zip (xs ++ x ∷ []) (ys ++ y ∷ []) ≡ zip xs ys ++ (x, y) ∷ []
zip-push [] [] x y e = refl
zip-push [] (z ∷ ys) x y e = absurd (omega arith)
zip-push (z ∷ xs) [] x y e = absurd (omega arith)
zip-push (v ∷ xs) (w ∷ ys) x y e = ap (λ l. (v, w) ∷ l) (zip-push xs ys x y (omega arith))

-- what holds of each pair and of the new one holds of all
pub All-zip-push : {X Y : Type 0} (P : X × Y → Type 0) (xs : List X) (ys : List Y) (x : X) (y : Y) → length xs ≡ length ys → All P (zip xs ys) → P (x, y) → All P (zip (xs ++ x ∷ []) (ys ++ y ∷ []))
All-zip-push P xs ys x y same each new = subst (All P) (sym (zip-push xs ys x y same)) (All-push P (zip xs ys) (x, y) each new)

-- read backwards, the new pair comes first
pub reverse-zip-push : {X Y : Type 0} (xs : List X) (ys : List Y) (x : X) (y : Y) → length xs ≡ length ys → reverse (zip (xs ++ x ∷ []) (ys ++ y ∷ [])) ≡ (x, y) ∷ reverse (zip xs ys)
reverse-zip-push xs ys x y e = ap reverse (zip-push xs ys x y e) ∙ reverse-append (zip xs ys) ((x, y) ∷ [])
