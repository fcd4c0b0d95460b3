-- A gate of two clients as the queue of one thread: what contracts see of it, and after which runs it stands. Own
-- rules.
use Rattle.std.specs.Prelude.{◌≡◌, ℕ, ◌+◌, false, [], Option, Some, IfSome, Result}
use Rattle.gate_model.specs.declared.record.Moment.{Moment}
use Rattle.gate_model.specs.declared.submission.Body.{Body}
use Rattle.gate_core.specs.declared.submit.Refused.{Refused}
use Rattle.gate_core.specs.declared.submit.CloseFault.{CloseFault}
use Rattle.gate_core.specs.Merge.{IsClient}
use Rattle.gate_core.specs.Legal.{Run, queued, taken, has_ended, has_joined}
use Rattle.gate_queue.specs.Client.{ClientState}
use Rattle.gate_queue.specs.Taker.{TakerState}
use Rattle.gate_queue.specs.GateClient.{Submits, Looks}
use Rattle.gate_queue.specs.GateOperator.{Closes}
use Rattle.gate_replay.specs.Allowed.{shown_close, IsAllowed}

-- a queue over a gate: the client that is served, the other client, and the taker
pub record SoloState : Type 0 where
  pub client : ClientState
  pub other : ClientState
  pub taker : TakerState

abbrev pub solo_of : ClientState → ClientState → TakerState → SoloState
solo_of client other taker = record { client = client; other = other; taker = taker }

-- the other client and the taker stay as they were
pub record KeepsRest (old new : SoloState) : Type 0 where
  pub other : new.other ≡ old.other
  pub taker : new.taker ≡ old.taker

-- a submission of the served client that was answered so
abbrev pub SoloSubmits : SoloState → Body → Result ℕ Refused → SoloState → Type 0
SoloSubmits old body result new = Submits old.client body result new.client × KeepsRest old new

-- a look of the served client that was answered so
abbrev pub SoloLooks : SoloState → Option Moment → SoloState → Type 0
SoloLooks old result new = Looks old.client result new.client × KeepsRest old new

-- a close that was answered so
abbrev pub SoloCloses : SoloState → Moment → Result Moment CloseFault → SoloState → Type 0
SoloCloses old moment result new = Closes old.client moment result new.client × KeepsRest old new

-- the run is allowed, nobody has ended in it, and the parts are as they are after it: what was queued for each client,
-- what was taken, and the close that it shows, of which the other client may not know yet
pub record IsAfter (queue : SoloState) (run : Run) : Type 0 where
  pub gates : (queue.other.gate ≡ queue.client.gate) × (queue.taker.gate ≡ queue.client.gate)
  pub two_clients : queue.client.gate.limits.clients ≡ 2
  pub number_is : IsClient 2 queue.client.number
  pub other_number_is : queue.client.number + queue.other.number ≡ 3
  pub queued_is : queue.client.queued ≡ queued queue.client.number run
  pub other_queued_is : queue.other.queued ≡ queued queue.other.number run
  pub taken_is : queue.taker.taken ≡ taken run
  pub none_taken_in : queue.taker.ended ≡ []
  pub closed_is : queue.client.known_close ≡ shown_close run
  pub other_knows : IfSome queue.other.known_close (λ known. shown_close run ≡ Some known)
  pub nobody_ended : (client : ℕ) → has_ended client run ≡ false
  pub nobody_joined : (client : ℕ) → has_joined client run ≡ false
  pub allowed : IsAllowed queue.client.gate.limits run
