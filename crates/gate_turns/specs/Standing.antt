-- The peers of a port, of which each place has one or none: which of them can be served (`can_be_served`), and how many come
-- from an address (`connections`). Own rules.
use Rattle.std.specs.Prelude.{ℕ, Bool, true, false, ◌&&◌, List, length, filter, filter_map, Option, Some, None, slice_set, ◌==◌}
use Rattle.gate_turns.specs.declared.standing.Stage.{Stage}
use Rattle.gate_turns.specs.declared.standing.Stage.TheVariants.{Open, Last, Parting}
use Rattle.gate_turns.specs.declared.standing.Standing.{Standing}

-- the peers that there are, in the order of their places
abbrev pub standings : List (Option Standing) → List Standing
standings peers = filter_map (λ peer. peer) peers

-- the peers without the one at this place
abbrev pub others : List (Option Standing) → Option ℕ → List (Option Standing)
others peers None = peers
others peers (Some place) = slice_set peers place None

-- it may be served
abbrev pub is_open : Stage → Bool
is_open Open = true
is_open Last = false
is_open Parting = false

-- a peer may be served, and is ready
abbrev pub can_be_served : Standing → Bool
can_be_served standing = is_open standing.stage && standing.is_ready

-- how many of the peers come from this address
abbrev pub connections : List (Option Standing) → ℕ → ℕ
connections peers address = length (filter (λ standing. standing.address == address) (standings peers))
