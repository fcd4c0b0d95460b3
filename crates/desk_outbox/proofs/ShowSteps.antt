-- One more element of a list is shown, or it is not.
use Rattle.std.proofs.Common.{◌≡◌, Bool, true, false, List, [], ◌∷◌, ◌++◌, map, refl, sym, ap, cond, ◌∙◌, append_assoc}
use Rattle.std.specs.Prelude.{filter}

row : {X A : Type 0} (p : X → Bool) (f : X → A) (x : X) (rest : List X) (b : Bool)
    → map f (cond b (x ∷ filter p rest) (filter p rest)) ≡ cond b (f x ∷ []) [] ++ map f (filter p rest)
row p f x rest true = refl
row p f x rest false = refl

pub shown_step : {X A : Type 0} (p : X → Bool) (f : X → A) (x : X) (left rest : List X) (old new all : List A) → left ≡ x ∷ rest
    → new ≡ old ++ cond (p x) (f x ∷ []) [] → old ++ map f (filter p left) ≡ all → new ++ map f (filter p rest) ≡ all
shown_step p f x left rest old new all is added so_far =
    ap (λ shown. shown ++ map f (filter p rest)) added
    ∙ append_assoc old (cond (p x) (f x ∷ []) []) (map f (filter p rest))
    ∙ ap (λ more. old ++ more) (sym (row p f x rest (p x)))
    ∙ ap (λ xs. old ++ map f (filter p xs)) (sym is)
    ∙ so_far
