-- Tests in their order, each with the refusal of what fails it: `first_failed`, and `Refuses`.
use Rattle.std.specs.Prelude.{◌≡◌, ◌⊎◌, Bool, if◌then◌else◌, List, [], ◌∷◌, Option, Some, None}
use Rattle.desk_guard.specs.declared.refusal.Refusal.{Refusal}
use Rattle.desk_guard.specs.declared.refusal.Refusal.TheVariants.{OutOfMemory}

-- the refusal of the first test that fails; none where each passes
abbrev pub first_failed : List (Bool × Refusal) → Option Refusal
first_failed [] = None
first_failed (test ∷ tests) = if test.0 then first_failed tests else Some test.1

-- the refusal is that of the first test that fails, or memory ran out
abbrev pub Refuses : List (Bool × Refusal) → Refusal → Type 0
Refuses tests refusal = (refusal ≡ OutOfMemory) ⊎ (first_failed tests ≡ Some refusal)
