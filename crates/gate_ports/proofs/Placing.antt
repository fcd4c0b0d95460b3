-- A place that is set, and the others.
use Rattle.std.proofs.Common.{◌≡◌, ◌≢◌, ℕ, ◌<◌, List, [], ◌∷◌, zero, suc, length, Option, Some, refl, ap, arith}
use Rattle.std.specs.Prelude.{slice_get, slice_set}
use Rattle.std.proofs.lemmas.List.{length-set}
use Rattle.gate_turns.specs.declared.standing.Standing.{Standing}
use Rattle.gate_ports.specs.Table.{IsOnlyAt}

pub set_stands : {X : Type 0} (xs : List X) (place : ℕ) (x : X) → place < length xs → slice_get (slice_set xs place x) place ≡ Some x
set_stands [] place x within = absurd (omega arith)
set_stands (y ∷ xs) zero x within = refl
set_stands (y ∷ xs) (suc place) x within = set_stands xs place x (omega arith)

set_others : {X : Type 0} (xs : List X) (place other : ℕ) (x : X) → other ≢ place
    → slice_get (slice_set xs place x) other ≡ slice_get xs other
set_others [] place other x differs = refl
set_others (y ∷ xs) zero zero x differs = absurd (differs refl)
set_others (y ∷ xs) zero (suc other) x differs = refl
set_others (y ∷ xs) (suc place) zero x differs = refl
set_others (y ∷ xs) (suc place) (suc other) x differs = set_others xs place other x (λ same. differs (ap suc same))

pub set_only : (standings : List (Option Standing)) (place : ℕ) (standing : Option Standing)
    → IsOnlyAt place standings (slice_set standings place standing)
set_only standings place standing = record {
  room = length-set standings place standing;
  others = λ other differs. set_others standings place other standing differs;
}
