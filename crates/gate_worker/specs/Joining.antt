-- Workers before they start, and what is collected of them once they are joined: `AreCollected`.
use Rattle.std.specs.Prelude.{◌≡◌, ℕ, ◌+◌, ◌≤◌, List, [], length, Option, IfSome}
use Rattle.gate_model.specs.declared.record.Moment.{Moment}
use Rattle.gate_queue.specs.Gate.{GateId}
use Rattle.gate_queue.specs.Client.{ClientState}
use Rattle.gate_queue.specs.Opening.{new_clients}
use Rattle.gate_worker.specs.declared.limits.WorkerLimits.{WorkerLimits}
use Rattle.gate_worker.specs.declared.worker.Cause.{Cause}
use Rattle.gate_worker.specs.declared.collected.Collected.{Collected}
use Rattle.gate_worker.specs.Answered.{reports_of_each}
use Rattle.gate_worker.specs.Collecting.{AreOf, AllEnded}

-- there is room for what so many workers return, and nothing there yet
pub record HasRoom (count : ℕ) (collected : Collected) : Type 0 where
  pub none : collected.ended.items ≡ []
  pub none_reported : collected.reports.items ≡ []
  pub ended : count ≤ collected.ended.cap
  pub reports : count ≤ collected.reports.cap

-- clients of this gate: 1 to as many as there are endpoints, and the operator's, for none of which anything is queued
pub record AreNew (gate : GateId) (clients : List ClientState) (endpoints : ℕ) (operator : ClientState) : Type 0 where
  pub all : clients ≡ new_clients gate (length clients)
  pub count : endpoints ≡ length clients
  pub operators : operator.gate ≡ gate
  pub fresh : operator.queued ≡ []

-- the ends of agents' workers, who served these streams, and of the operators', who began with this client, are
-- collected; where the operators' ended for a cause that is known, all were started, and it is the ends of all
pub record AreCollected (limits : WorkerLimits) (shows : Moment → Type 0) (gate : GateId)
    (agents : List (Option (List (List ℕ)))) (operator : ClientState) (operators : Option (List (List ℕ)))
    (before after : Collected) (cause : Option Cause) : Type 0 where
  pub ended : IfSome cause (λ why. AllEnded limits shows gate agents operators operator why after.ended.items
      (reports_of_each after.reports.items))
  pub few : length after.ended.items ≤ length agents + 1
  pub gates : AreOf gate after.ended.items
  pub ended_room : after.ended.cap ≡ before.ended.cap
  pub reports_room : after.reports.cap ≡ before.reports.cap
