-- Who gives way to a new peer, and when connections are accepted. Own rules.
use Rattle.std.specs.Prelude.{◌≡◌, ◌⊎◌, ℕ, ◌<◌, nat_le, Bool, true, false, List, [], Option, Some, None, slice_get, slice_set}
use Rattle.gate_turns.specs.declared.standing.Role.{Role}
use Rattle.gate_turns.specs.declared.standing.Role.TheVariants.{Agent, Operator, Reader}
use Rattle.gate_turns.specs.declared.standing.Standing.{Standing}
use Rattle.gate_turns.specs.Turns.{those, IsFirst, is_silent, gives_way_before, owes, owes_longer}
use Rattle.gate_turns.specs.Pages.{is_slow, is_behind, is_parting, kept}
use Rattle.gate_ports.specs.declared.peers.Door.{Door}
use Rattle.gate_ports.specs.declared.peers.Door.TheVariants.{Shut, Open, Rests, Closed}

-- no reader takes less of its page than 1 MB a second, and this one has its page and only ends its side
pub record IsFirstToPart (now : ℕ) (standings : List (Option Standing)) (place : ℕ) : Type 0 where
  pub none_slow : those (is_slow now) standings ≡ []
  pub parts : IsFirst is_parting owes_longer standings None place

-- of agents one that is silent gives way, of the address with the most connections; of operators the one that has owed for
-- the longest time; of readers the slowest one, and where none is slow, one that has its page
abbrev pub IsFirstToGo : Role → ℕ → ℕ → Bool → List (Option Standing) → ℕ → Type 0
IsFirstToGo Agent now silence ending standings place =
    IsFirst is_silent (gives_way_before standings) standings None place
IsFirstToGo Operator now silence ending standings place =
    IsFirst (owes silence ending) owes_longer standings None place
IsFirstToGo Reader now silence ending standings place =
    IsFirst (is_slow now) is_behind standings None place ⊎ IsFirstToPart now standings place

-- only readers that are slow give way, each time the slowest, and each only where more bytes are kept than may be
pub data GiveWay (now : ℕ) (before : List (Option Standing)) : List (Option Standing) → Type 0 where
  nobody : GiveWay now before before
  one_more : (standings : List (Option Standing)) (place : ℕ) → GiveWay now before standings
      → 134217728 < kept standings → IsFirst (is_slow now) is_behind standings None place
      → GiveWay now before (slice_set standings place None)

-- the peer at this place is ready
abbrev pub is_ready_in : Option (Option Standing) → Bool
is_ready_in None = false
is_ready_in (Some None) = false
is_ready_in (Some (Some standing)) = standing.is_ready

abbrev pub is_ready_at : List (Option Standing) → ℕ → Bool
is_ready_at standings place = is_ready_in (slice_get standings place)

-- the listener is to be watched: the port is open now, or has rested
abbrev pub may_watch : Door → Bool → ℕ → Bool
may_watch Shut is_open now = is_open
may_watch (Rests until) is_open now = nat_le until now
may_watch Open is_open now = false
may_watch Closed is_open now = false

-- a new operator has brought no line
abbrev pub can_be_served_at_once : Role → Bool
can_be_served_at_once Agent = true
can_be_served_at_once Operator = false
can_be_served_at_once Reader = true
