-- What is left of a text and of what was added to it.
use Rattle.std.proofs.Common.{◌≡◌, List, [], ◌∷◌, ◌++◌, length, ap, length-append, arith}

-- where nothing is left of both, nothing is left of what was added
pub second_nil : {X : Type 0} (xs ys : List X) → xs ++ ys ≡ [] → ys ≡ []
second_nil [] ys none = none
second_nil (x ∷ xs) ys none = let long = ap length none in let both = length-append (x ∷ xs) ys in absurd (omega arith)
