-- What is taken of the input.
use Rattle.std.proofs.Common.{◌≡◌, ◌<◌, ◌≤◌, ℕ, List, [], ◌++◌, length, take, take_all, Option, Some, None, IfSome, option_map, ap, ◌∙◌, arith}
use Rattle.std.proofs.lemmas.List.{length-take}
use Rattle.gate_start.specs.Kept.{IsRead}

-- what was read is all, where it is less than the most
pub read_whole : (known : Option (List ℕ)) (front items : List ℕ) (most : ℕ) → front ≡ [] → IfSome (option_map (take most) known) (λ xs. items ≡ front ++ xs)
    → length items < most → IfSome known (λ left. items ≡ left)
read_whole None front items most e h few = tt
read_whole (Some bytes) front items most e h few =
    let k : items ≡ take most bytes = h ∙ ap (λ f. f ++ take most bytes) e in
    let short : length bytes ≤ most = omega (arith, ap (λ (t : List ℕ). length t) k, length-take most bytes) in
    k ∙ take_all most bytes short
