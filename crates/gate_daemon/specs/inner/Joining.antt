-- Only proofs and private functions use this: threads before they start, and what all of them returned.
use Rattle.std.specs.Prelude.{◌≡◌, ℕ, ◌+◌, Option, None, IsSome, List, [], ◌∷◌, length}
use Rattle.gate_model.specs.declared.record.Moment.{Moment}
use Rattle.gate_queue.specs.Gate.{GateId}
use Rattle.gate_queue.specs.Client.{client_state}
use Rattle.gate_queue.specs.Opening.{new_clients}
use Rattle.gate_worker.specs.Numbers.{numbers_after}
use Rattle.gate_worker.specs.declared.limits.WorkerLimits.{WorkerLimits}
use Rattle.gate_daemon.specs.declared.joined.Joined.{Joined}
use Rattle.gate_daemon.specs.declared.threads.Start.{Start}
use Rattle.gate_worker.specs.Answered.{reports_of_each}
use Rattle.gate_worker.specs.Collecting.{numbers_of, AreOf, AllEnded}
use Rattle.gate_worker.specs.Joining.{HasRoom}
use Rattle.gate_boards.specs.Applying.{AreShown, IsApplied, IsSameLog}

-- the threads of a gate with so many agents' workers are joined, and its taker knows of the close
pub record AreJoined (gate : GateId) (workers : ℕ) (joined : Joined) : Type 0 where
  pub applied : IsApplied gate joined.taker joined.applier
  pub known_close : IsSome joined.taker.known_close
  pub all : numbers_of joined.collected.ended.items ≡ (workers + 1) ∷ numbers_after 0 workers
  pub gates : AreOf gate joined.collected.ended.items

-- what the threads of a gate start with: its parts, an applier that has applied nothing, and room for what its workers
-- return
pub record IsStart {A O P H : Type 0} (gate : GateId) (start : Start A O P H) : Type 0 where
  pub applied : IsApplied gate start.taker start.applier
  pub closer : start.closer.cell ≡ gate.cell
  pub clients : start.workers.clients.items ≡ new_clients gate (length start.workers.clients.items)
  pub each : length start.workers.endpoints.items ≡ length start.workers.clients.items
  pub operator : start.workers.operator ≡ client_state gate (length start.workers.clients.items + 1) [] None
  pub room : HasRoom (length start.workers.clients.items + 1) start.workers.collected

-- the threads that started with these parts, on endpoints that sent these streams, served with these limits and by a
-- clock that may show these moments, and are joined
pub record HaveRun {A O P H : Type 0} (gate : GateId) (limits : WorkerLimits) (shows : Moment → Type 0)
    (agents : List (Option (List (List ℕ)))) (operators : Option (List (List ℕ))) (start : Start A O P H)
    (joined : Joined) : Type 0 where
  pub ends : AreJoined gate (length start.workers.endpoints.items) joined
  pub same : IsSameLog start.applier joined.applier
  pub served : AllEnded limits shows gate agents operators start.workers.operator joined.operator joined.collected.ended.items
      (reports_of_each joined.collected.reports.items)
  pub shown : AreShown shows start.applier → AreShown shows joined.applier
