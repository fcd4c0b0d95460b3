-- The peer of a worker that is served, beside those that wait. Own rules; times are in milliseconds.
use Rattle.std.specs.Prelude.{◌≡◌, ℕ, ◌≤◌, ◌-◌, List, Bool, false, not, if◌then◌else◌, [], Option, Some, None, IfSome}
use Rattle.std.specs.Option.{option_map}
use Rattle.gate_turns.specs.declared.standing.Role.{Role}
use Rattle.gate_turns.specs.declared.standing.Role.TheVariants.{Agent, Operator, Reader}
use Rattle.gate_turns.specs.Standing.{can_be_served}
use Rattle.gate_turns.specs.declared.standing.Standing.{Standing}
use Rattle.gate_turns.specs.Pages.{kept}
use Rattle.gate_turns.specs.Turns.{those, least_piece}
use Rattle.gate_ports.specs.declared.held.Held.{Held}
use Rattle.gate_ports.specs.declared.peers.Door.{Door}
use Rattle.gate_ports.specs.declared.peers.Door.TheVariants.{Shut, Open, Rests, Closed}
use Rattle.gate_ports.specs.declared.served.Served.{Served}
use Rattle.gate_ports.specs.declared.serving.Serving.{Serving}
use Rattle.gate_ports.specs.Peers.{HandsOut}
use Rattle.gate_ports.specs.Waiting.{earlier, IsFirstReady}

-- when a rest of the listener is over
abbrev pub rests_until : Door → Option ℕ
rests_until Shut = None
rests_until Open = None
rests_until (Rests until) = Some until
rests_until Closed = None

-- a worker waits until one is late, or a rest is over, and no longer than it may; without end where neither is
abbrev pub timeout_of : Option ℕ → Option ℕ → Door → ℕ → Option ℕ
timeout_of most late_at door now =
    earlier most (option_map (λ until. until - now) (earlier late_at (rests_until door)))

-- for how long a worker waits, if it is to wait at all: while somebody can be served, not at all, and while readers wait for
-- room until it is looked at again who gives way
abbrev pub most_wait : Bool → Bool → Option ℕ → Option ℕ
most_wait ready room most =
    if not ready then most else (if room then Some 0 else earlier most (Some 100))

-- the place of the peer that is served, and what is held of it
abbrev pub served_held : Serving → Option (ℕ × Held)
served_held serving = option_map (λ served. (served.place, served.peer.held)) serving.served

-- the peer that is served stays it, with what is held of it
abbrev pub KeepsServed : Serving → Serving → Type 0
KeepsServed old new = served_held new ≡ served_held old

-- so many bytes at the front of the buffer were handed out of the peer that is served
abbrev pub HandsOutServed : Serving → ℕ → List ℕ → Serving → Type 0
HandsOutServed old count buffer new =
    IfSome old.served (λ before. IfSome new.served (λ after. HandsOut before.peer count buffer after.peer))

-- the peer of this place is served, of which nothing was handed out, and it isn't new any more
pub record IsBegun (taken : ℕ) (served : Served) : Type 0 where
  pub place : served.place ≡ taken
  pub none : served.handed_out ≡ 0
  pub no_lines : served.peer.held.lines ≡ 0
  pub greeted : served.peer.is_new ≡ false

abbrev pub IsServedNext : ℕ → Serving → Type 0
IsServedNext place serving = (served : Served) × (serving.served ≡ Some served) × IsBegun place served

-- the peer at this place is served next of those that stand so: it was ready first, and of readers one is served only where
-- no more than 128 MiB are kept for those that wait
pub record IsNextOf (role : Role) (standings : List (Option Standing)) (place : ℕ) : Type 0 where
  pub first : IsFirstReady standings place
  pub room : role ≡ Reader → kept standings ≤ 134217728

-- a piece goes on: less was handed out since others were looked at, or nobody else can be served
abbrev pub GoesOnSince : Role → Serving → Served → Type 0
GoesOnSince role new served =
    least_piece role ≤ served.since_look → those can_be_served new.peers.table.standings.items ≡ []

-- how long peers may still come, once the daemon is to end: a reader comes for the last page
abbrev pub last_time : Role → ℕ
last_time Agent = 0
last_time Operator = 0
last_time Reader = 500
