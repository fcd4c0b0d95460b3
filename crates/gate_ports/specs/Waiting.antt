-- The peers of a worker that wait. Own rules; times are in milliseconds.
use Rattle.std.specs.Prelude.{◌≡◌, ℕ, ◌<◌, ◌+◌, ◌-◌, ◌^◌, min, Bool, List, Option, Some, None, slice_get}
use Rattle.std.specs.Option.{option_map}
use Rattle.gate_turns.specs.Standing.{can_be_served}
use Rattle.gate_turns.specs.Turns.{IsFirst, was_ready_before}
use Rattle.gate_turns.specs.Waiting.{limit_of, IsLate}
use Rattle.gate_turns.specs.declared.standing.Standing.{Standing}
use Rattle.gate_ports.specs.declared.peers.Peers.{Peers}

-- the lesser of two times, where there are any
abbrev pub earlier : Option ℕ → Option ℕ → Option ℕ
earlier None second = second
earlier (Some first) None = Some first
earlier (Some first) (Some second) = Some (min first second)

-- the greatest time that a clock shows, and a time that isn't after it
abbrev pub in_time : ℕ → ℕ
in_time time = min time (2 ^ 64 - 1)

-- when a peer is late, if it owes anything
abbrev pub late_at_of : ℕ → Bool → Standing → Option ℕ
late_at_of silence ending standing = option_map (λ limit. in_time (standing.since + limit)) (limit_of silence ending standing)

-- the peer at this place has owed what it owes for as long as it may
abbrev pub IsLateAt : Peers → ℕ → Type 0
IsLateAt peers place =
    (standing : Standing)
    × (slice_get peers.table.standings.items place ≡ Some (Some standing))
    × IsLate peers.now peers.rules.silence peers.is_ending standing

-- nobody at so many first places has
abbrev pub IsNoneLate : Peers → ℕ → Type 0
IsNoneLate peers count = (place : ℕ) → place < count → IsLateAt peers place → ⊥

-- the peer at this place can be served, and came to that first
abbrev pub IsFirstReady : List (Option Standing) → ℕ → Type 0
IsFirstReady standings place = IsFirst can_be_served was_ready_before standings None place

-- the time that was looked at, and what is owed by it, are the same
pub record IsSameTime (old new : Peers) : Type 0 where
  pub now : new.now ≡ old.now
  pub ending : new.is_ending ≡ old.is_ending
  pub rules : new.rules ≡ old.rules
