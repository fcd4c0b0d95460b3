-- Who of the peers comes first (`IsFirst`): to be served, and to give way to one more. When a piece ends (`IsOver`). Own
-- rules.
use Rattle.std.specs.Prelude.{◌≡◌, ◌≢◌, ℕ, ◌≤◌, Bool, true, false, not, ◌&&◌, ◌||◌, ◌==◌, nat_lt, IsTrue, List, All, filter, take, Option, Some, slice_get, is_some}
use Rattle.gate_turns.specs.declared.standing.Role.{Role}
use Rattle.gate_turns.specs.declared.standing.Role.TheVariants.{Agent, Operator, Reader}
use Rattle.gate_turns.specs.declared.standing.Standing.{Standing}
use Rattle.gate_turns.specs.Standing.{standings, others, can_be_served, connections}
use Rattle.gate_turns.specs.Waiting.{limit_of}

-- the peers of a kind
abbrev pub those : (Standing → Bool) → List (Option Standing) → List Standing
those kind peers = filter kind (standings peers)

-- the peer at this place is the first of its kind among the others: none of them goes before it, and it goes before each at
-- a lower place
pub record IsFirst (kind : Standing → Bool) (goes_before : Standing → Standing → Bool) (peers : List (Option Standing))
    (except : Option ℕ) (place : ℕ) : Type 0 where
  pub peer : Standing
  pub stands : slice_get peers place ≡ Some (Some peer)
  pub is_another : except ≢ Some place
  pub is_of_kind : kind peer ≡ true
  pub none_before : All (λ other. goes_before other peer ≡ false) (those kind (others peers except))
  pub before_lower : All (λ other. goes_before peer other ≡ true) (those kind (take place (others peers except)))

-- ---- to be served

-- it came to be ready earlier
abbrev pub was_ready_before : Standing → Standing → Bool
was_ready_before peer other = nat_lt peer.order other.order

-- ---- to give way to one more

-- it owes something
abbrev pub owes : ℕ → Bool → Standing → Bool
owes silence ending standing = is_some (limit_of silence ending standing)

-- it has owed what it owes for longer
abbrev pub owes_longer : Standing → Standing → Bool
owes_longer peer other = nat_lt peer.since other.since

-- an agent that can't be served is silent
abbrev pub is_silent : Standing → Bool
is_silent standing = not (can_be_served standing)

-- this count is more than that one, or as many and the rest decides
abbrev pub outweighs : ℕ → ℕ → Bool → Bool
outweighs count other rest = nat_lt other count || ((count == other) && rest)

-- more of all peers come from its address, or as many, and it has been silent for longer
abbrev pub gives_way_before : List (Option Standing) → Standing → Standing → Bool
gives_way_before peers peer other =
    outweighs (connections peers peer.address) (connections peers other.address) (owes_longer peer other)

-- ---- the end of a piece

-- how many bytes a piece hands out before it ends for others
abbrev pub least_piece : Role → ℕ
least_piece Agent = 65536
least_piece Operator = 1
least_piece Reader = 1

-- others can be served, and the piece has handed out enough
pub record IsOver (role : Role) (handed_out : ℕ) (others_ready : Bool) : Type 0 where
  pub others : IsTrue others_ready
  pub enough : least_piece role ≤ handed_out
