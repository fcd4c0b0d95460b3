-- What can be done for a peer, and that its bytes are handed out in order, each once. Own rules.
use Rattle.std.specs.Prelude.{◌≡◌, ℕ, ◌-◌, ◌≤◌, ◌+◌, ◌||◌, ◌&&◌, ◌==◌, not, nat_lt, Bool, true, false, List, [], ◌++◌, length, take, drop, IsNone}
use Rattle.gate_turns.specs.declared.standing.Role.{Role}
use Rattle.gate_turns.specs.declared.standing.Role.TheVariants.{Agent, Operator, Reader}
use Rattle.gate_turns.specs.declared.standing.Stage.{Stage}
use Rattle.gate_turns.specs.declared.standing.Stage.TheVariants.{Open, Last, Parting}
use Rattle.gate_turns.specs.declared.standing.Page.{Page}
use Rattle.gate_turns.specs.declared.standing.Standing.{Standing}
use Rattle.gate_ports.specs.Held.{line_ends}
use Rattle.gate_ports.specs.declared.peer.Peer.{Peer}

-- what it has of its page: all that isn't left for it
abbrev pub page_of : Peer → Page
page_of peer = record {
  text = peer.text;
  bytes = peer.text_bytes;
  taken = peer.text_bytes - length peer.unsent;
}

-- something whole is there to be served
abbrev pub is_whole : Peer → Bool
is_whole peer = nat_lt 0 peer.held.whole

-- it took all that was written to it
abbrev pub is_sent : Peer → Bool
is_sent peer = length peer.unsent == 0

-- whether it can be served, by its role: an agent also to be greeted, a reader at once
abbrev pub can_begin_as : Role → Peer → Bool
can_begin_as Agent peer = peer.is_new || (is_whole peer && is_sent peer)
can_begin_as Operator peer = is_whole peer && is_sent peer
can_begin_as Reader peer = true

abbrev pub can_begin : Peer → Bool
can_begin peer = can_begin_as peer.held.role peer

-- what a reader sends isn't read
abbrev pub is_read : Role → Bool
is_read Agent = true
is_read Operator = true
is_read Reader = false

-- more of it is awaited
abbrev pub is_awaited : Peer → Bool
is_awaited peer = is_read peer.held.role && not peer.has_ended && not (is_whole peer) && is_sent peer

-- an agent is greeted, whatever it sends
abbrev pub is_greeted : Role → Bool
is_greeted Agent = true
is_greeted Operator = false
is_greeted Reader = false

-- it has ended, and nothing is left of it to serve: an agent was also greeted
abbrev pub is_spent : Peer → Bool
is_spent peer = peer.has_ended && not (peer.is_new && is_greeted peer.held.role) && not (is_whole peer)

-- something is left to do that isn't reported again
abbrev pub is_interrupted : Stage → Peer → Bool
is_interrupted Open peer = peer.may_read && is_awaited peer
is_interrupted Last peer = false
is_interrupted Parting peer = peer.may_read

-- the bytes of an agent that were kept, and those that came since, are those that were handed out, and then those that are
-- kept now: none is left out, and none is handed out twice
abbrev pub HandsOn : Peer → ℕ → List ℕ → Peer → Type 0
HandsOn old count buffer new =
    old.held.role ≡ Agent → IsNone new.failure
    → (came : List ℕ) × (take count buffer ++ new.held.bytes.items ≡ old.held.bytes.items ++ came)

-- the lines of an operator that were handed out in its piece are counted, by their ends
abbrev pub CountsLines : Peer → ℕ → List ℕ → Peer → Type 0
CountsLines old count buffer new =
    old.held.role ≡ Operator → new.held.lines ≡ old.held.lines + line_ends (take count buffer)

-- so many bytes at the front of the buffer were handed out
pub record HandsOut (old : Peer) (count : ℕ) (buffer : List ℕ) (new : Peer) : Type 0 where
  pub room : count ≤ length buffer
  pub in_order : HandsOn old count buffer new
  pub lines : CountsLines old count buffer new

-- all but what was taken from the front is left
abbrev pub Sends : List ℕ → List ℕ → Type 0
Sends old new = (count : ℕ) × (new ≡ drop count old)

-- a read changes neither who the peer is nor what is left for it, and a failure stays
pub record IsSameBy (old new : Peer) : Type 0 where
  pub role : new.held.role ≡ old.held.role
  pub is_new : new.is_new ≡ old.is_new
  pub unsent : new.unsent ≡ old.unsent
  pub failure : IsNone new.failure → IsNone old.failure

-- what came was kept, and nothing handed out
pub record IsRead (old new : Peer) : Type 0 where
  pub same : IsSameBy old new
  pub kept : HandsOn old 0 [] new
  pub lines : CountsLines old 0 [] new

-- what an agent sends gives it no more time, and nobody another role, order or address
pub record KeepsTime (old new : Standing) : Type 0 where
  pub role : new.role ≡ old.role
  pub order : new.order ≡ old.order
  pub address : new.address ≡ old.address
  pub is_ready : new.is_ready ≡ old.is_ready
  pub since : old.role ≡ Agent → old.stage ≡ Open → new.since ≡ old.since
