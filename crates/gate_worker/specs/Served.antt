-- What the clients of a gateway that has finished did, over connections that send known streams: `AllServed`. Own
-- rules: the numbers of clients, and that operators are served without a limit of connections.
use Rattle.std.specs.Prelude.{◌≡◌, ℕ, suc, ◌+◌, Bool, true, false, List, [], ◌∷◌, All, Option, None, length, ⊤}
use Rattle.gate_model.specs.declared.record.Moment.{Moment}
use Rattle.gate_model.specs.declared.submission.Numbered.{Numbered}
use Rattle.gate_core.specs.Merge.{IsClient, of_client}
use Rattle.gate_queue.specs.Gate.{GateId}
use Rattle.gate_queue.specs.Client.{ClientState, client_state}
use Rattle.gate_reader.specs.declared.report.Report.{Report}
use Rattle.gate_worker.specs.declared.limits.WorkerLimits.{WorkerLimits}
use Rattle.gate_worker.specs.declared.worker.Cause.{Cause}
use Rattle.gate_worker.specs.Work.{IsWork}

-- the limits of a worker of operators
abbrev pub unlimited : WorkerLimits → WorkerLimits
unlimited limits = record limits { sessions = 4294967295 }

-- a worker began with this client and ended with that one, for a cause that its limits and its client allow
abbrev pub EndsSo : Bool → WorkerLimits → (Moment → Type 0) → Option (List (List ℕ)) → ClientState → List Report
    → ClientState → Cause → Type 0
EndsSo is_operator limits shows streams begun reports ended cause =
    (ended.gate ≡ begun.gate) × (ended.number ≡ begun.number)
    × IsWork is_operator limits shows streams begun reports ended cause

-- the worker of the client with this number served connections that sent these streams, with these limits and by a
-- clock that may show these moments, and ended for this cause; its reports are these, and the log holds for it what was
-- queued
pub record HasServed (is_operator : Bool) (limits : WorkerLimits) (shows : Moment → Type 0)
    (streams : Option (List (List ℕ))) (gate : GateId) (number : ℕ) (reports : ℕ × List Report) (cause : Cause) (log : List Numbered) : Type 0 where
  pub ended : ClientState
  pub named : reports.0 ≡ number
  pub ends : EndsSo is_operator limits shows streams (client_state gate number [] None) reports.1 ended cause
  pub holds : of_client number log ≡ ended.queued

-- so did the workers of agents, of the clients after this number, one for each
abbrev pub EachServed : WorkerLimits → (Moment → Type 0) → GateId → ℕ → List (Option (List (List ℕ)))
    → List (ℕ × List Report) → List Numbered → Type 0
EachServed limits shows gate number [] [] log = ⊤
EachServed limits shows gate number (streams ∷ agents) (reports ∷ others) log =
    ((cause : Cause) × HasServed false limits shows streams gate (suc number) reports cause log)
    × EachServed limits shows gate (suc number) agents others log
EachServed limits shows gate number agents reports log = ⊥

-- so did all workers: of the operators, who are the last client, for this cause, and of the agents, from client 1; and
-- the log holds nobody else's items
pub record AllServed (limits : WorkerLimits) (shows : Moment → Type 0) (agents : List (Option (List (List ℕ))))
    (operators : Option (List (List ℕ))) (reports : List (ℕ × List Report)) (cause : Cause) (log : List Numbered)
    : Type 0 where
  pub gate : GateId
  pub first : ℕ × List Report
  pub others : List (ℕ × List Report)
  pub reports_are : reports ≡ first ∷ others
  pub of_operators : HasServed true (unlimited limits) shows operators gate (length agents + 1) first cause log
  pub of_agents : EachServed limits shows gate 0 agents others log
  pub no_others : All (λ item. IsClient (length agents + 1) item.client) log
