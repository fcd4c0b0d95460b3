-- One step of a search for the first of a kind.
use Rattle.std.specs.Prelude.{ℕ, Bool, true, Option, Some, None, if◌then◌else◌}
use Rattle.std.specs.Option.{option_map}
use Rattle.gate_turns.specs.declared.standing.Standing.{Standing}

-- the first of those so far and one more peer
abbrev pub next_first : (Standing → Standing → Bool) → Option (ℕ × Standing) → ℕ → Standing → Option (ℕ × Standing)
next_first before None place peer = Some (place, peer)
next_first before (Some first) place peer = if before peer first.1 then Some (place, peer) else Some first

-- whether one more peer comes before the first of those so far
abbrev pub comes_first : (Standing → Standing → Bool) → Option (ℕ × Standing) → Standing → Bool
comes_first before None peer = true
comes_first before (Some first) peer = before peer first.1

-- where the first stands, if there is one
abbrev pub place_of : Option (ℕ × Standing) → Option ℕ
place_of first = option_map (λ standing. standing.0) first
