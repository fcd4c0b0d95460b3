-- Members of an object, one after another.
use Rattle.std.proofs.Common.{◌≡◌, ℕ, List, ◌∷◌, ap, ◌∙◌}
use Rattle.json.specs.Json.{Json}

pub same_member : (name : List ℕ) (one other : Json) (rest more : List (List ℕ × Json)) → one ≡ other → rest ≡ more
    → (name, one) ∷ rest ≡ (name, other) ∷ more
same_member name one other rest more same later =
    ap (λ (value : Json). (name, value) ∷ rest) same ∙ ap (λ (members : List (List ℕ × Json)). (name, other) ∷ members) later
