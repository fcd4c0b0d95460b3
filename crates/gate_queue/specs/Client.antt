-- What contracts see of a client, and why a submission is refused. Own rules.
use Rattle.std.specs.Prelude.{◌≡◌, ℕ, ◌+◌, ◌-◌, ◌*◌, ◌<◌, ◌≤◌, List, length, Option, Some, None, IfSome}
use Rattle.crossbeam_queue.specs.Fifo.{Held}
use Rattle.gate_model.specs.declared.record.Moment.{Moment}
use Rattle.gate_model.specs.declared.submission.Body.{Body}
use Rattle.gate_model.specs.declared.submission.Numbered.{Numbered}
use Rattle.gate_core.specs.Limits.{Limits}
use Rattle.gate_core.specs.Merge.{IsCoreState}
use Rattle.gate_core.specs.declared.submit.Refused.{Refused}
use Rattle.gate_core.specs.declared.submit.Refused.TheVariants.{Closing, Spent, Full}
use Rattle.gate_queue.specs.Gate.{GateId}

-- a client, or one that has ended: its gate, its number, what it was answered is queued, and the moment of the close,
-- once it knows of it
pub record ClientState : Type 0 where
  pub gate : GateId
  pub number : ℕ
  pub queued : List Numbered
  pub known_close : Option Moment

abbrev pub client_state : GateId → ℕ → List Numbered → Option Moment → ClientState
client_state gate number queued known_close =
    record { gate = gate; number = number; queued = queued; known_close = known_close }

-- the queue may hold these items where this was queued for client c: for some lists of what was queued for each client
-- and some items that were taken, nothing is lost, made or out of order
pub record AllowsBeside (limits : Limits) (c : ℕ) (queued queue : List Numbered) : Type 0 where
  pub sent : ℕ → List Numbered
  pub taken : List Numbered
  pub conserved : IsCoreState limits.clients limits.quota limits.capacity sent taken queue
  pub own : sent c ≡ queued

-- the queue was full: at a moment of the call it held some items, as many as it may, that are allowed beside what was
-- queued for this client
abbrev pub WasFull : ClientState → Type 0
WasFull client = Held client.gate.limits.capacity (AllowsBeside client.gate.limits client.number client.queued)

-- the items of this client and the others' quotas can fill the queue
abbrev pub CanBeFull : ClientState → Type 0
CanBeFull client = client.gate.limits.capacity
    ≤ length client.queued + (client.gate.limits.clients - 1) * client.gate.limits.quota

-- the body is returned and nothing was queued. Closing: the client knows of the close at that moment. Spent: as many
-- items as the quota were queued for it. Full: fewer were, and the queue was full
abbrev pub IsRefusal : Refused → Body → ClientState → ClientState → Type 0
IsRefusal (Closing first returned) body old new =
    (returned ≡ body) × (new ≡ client_state old.gate old.number old.queued (Some first))
    × IfSome old.known_close (λ known. known ≡ first)
IsRefusal (Spent returned) body old new =
    (returned ≡ body) × (new ≡ old) × (old.known_close ≡ None) × (length old.queued ≡ old.gate.limits.quota)
IsRefusal (Full returned) body old new =
    (returned ≡ body) × (new ≡ old) × (old.known_close ≡ None) × (length old.queued < old.gate.limits.quota)
    × WasFull old × CanBeFull old
