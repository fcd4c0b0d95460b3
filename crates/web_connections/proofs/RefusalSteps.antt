-- The lines that a refusal is given.
use Rattle.std.proofs.Common.{◌≡◌, ℕ, List, [], ◌∷◌, ◌++◌, ap, sym, ◌∙◌, append_assoc, append-nil}

-- a text with lines, a date and the ends of two lines after it
pub written : (front lines date : List ℕ)
    → ((front ++ lines) ++ date) ++ 13 ∷ 10 ∷ 13 ∷ 10 ∷ []
    ≡ (front ++ (lines ++ ((date ++ 13 ∷ 10 ∷ []) ++ []))) ++ 13 ∷ 10 ∷ []
written front lines date =
    let line : List ℕ = 13 ∷ 10 ∷ [] in
    append_assoc (front ++ lines) date (13 ∷ 10 ∷ 13 ∷ 10 ∷ [])
    ∙ append_assoc front lines (date ++ 13 ∷ 10 ∷ 13 ∷ 10 ∷ [])
    ∙ ap (λ rest. front ++ rest)
    (sym
    (append_assoc lines ((date ++ line) ++ []) line
    ∙ ap (λ rest. lines ++ rest)
    (ap (λ rest. rest ++ line) (append-nil (date ++ line)) ∙ append_assoc date line line)))
    ∙ sym (append_assoc front (lines ++ ((date ++ line) ++ [])) line)
