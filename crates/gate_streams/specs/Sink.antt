-- What the calls of a sink do to what is known of it, `SinkState`: the bytes that were written to it, those of them
-- that it holds back, and how many of its calls were made and failed. None claims nothing. Own rules.
use Rattle.std.specs.Prelude.{◌≡◌, ◌⊎◌, ℕ, ◌+◌, List, [], Option, Some, None, Result, MatchResult, ⊤}
use Rattle.std.specs.Io.KnownBytes.{Appends}
use Rattle.gate_streams.specs.Source.{Tally, Counts}

-- what is known of a sink at one moment: its bytes, those of them that wait for a flush, and its tally
pub record SinkState : Type 0 where
  pub written : Option (List ℕ)
  pub pending : Option (List ℕ)
  pub tally : Option Tally

-- so many more calls failed, where they are counted
abbrev pub Fails : Option Tally → Option Tally → ℕ → Type 0
Fails None None more = ⊤
Fails None (Some after) more = ⊥
Fails (Some before) None more = ⊤
Fails (Some before) (Some after) more = after.failures ≡ before.failures + more

-- all that was written has reached its destination: nothing is held back
abbrev pub IsDelivered : Option (List ℕ) → Type 0
IsDelivered None = ⊤
IsDelivered (Some pending) = pending ≡ []

-- these bytes were written, and no call failed
pub record Writes (before after : SinkState) (bytes : List ℕ) : Type 0 where
  pub appended : Appends before.written after.written bytes
  pub none_failed : Fails before.tally after.tally 0

-- these bytes were written and delivered, and no call failed
pub record Delivers (before after : SinkState) (bytes : List ℕ) : Type 0 where
  pub appended : Appends before.written after.written bytes
  pub delivered : IsDelivered after.pending
  pub none_failed : Fails before.tally after.tally 0

-- one call failed, and no other
abbrev pub FailsOnce : SinkState → SinkState → Type 0
FailsOnce before after = Fails before.tally after.tally 1

-- two calls were made, neither of which failed; or one or two were, of which one failed
abbrev pub CountsTwo : {X E : Type 0} → Option Tally → Option Tally → Result X E → Type 0
CountsTwo before after r =
    MatchResult r (λ _. Counts before after 2 0) (λ _. Counts before after 1 1 ⊎ Counts before after 2 1)

-- the line was written and delivered, or one call failed
abbrev pub IsReported : List ℕ → SinkState → SinkState → Type 0
IsReported line before after = Delivers before after line ⊎ FailsOnce before after
