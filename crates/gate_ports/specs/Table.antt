-- The places of peers. Own rules.
use Rattle.std.specs.Prelude.{◌≡◌, ◌≢◌, ℕ, ◌<◌, List, [], ◌∷◌, ◌++◌, length, Option, Some, None, slice_get, ◌⊎◌}
use Rattle.gate_turns.specs.declared.standing.Standing.{Standing}

-- the place is free, and all others are as they were; there may be one more than before
pub record HasPlace (old new : List (Option Standing)) (place : ℕ) : Type 0 where
  pub within : place < length new
  pub free : slice_get new place ≡ Some None
  pub others : (new ≡ old) ⊎ (new ≡ old ++ None ∷ [])

-- all other places are as they were
pub record IsOnlyAt (place : ℕ) (old new : List (Option Standing)) : Type 0 where
  pub room : length new ≡ length old
  pub others : (other : ℕ) → other ≢ place → slice_get new other ≡ slice_get old other
