-- What joined workers returned: `AllEnded`.
use Rattle.std.specs.Prelude.{◌≡◌, ℕ, suc, true, false, List, [], ◌∷◌, map, All, Option, None, ⊤}
use Rattle.gate_model.specs.declared.record.Moment.{Moment}
use Rattle.gate_queue.specs.Gate.{GateId}
use Rattle.gate_queue.specs.Client.{ClientState, client_state}
use Rattle.gate_reader.specs.declared.report.Report.{Report}
use Rattle.gate_worker.specs.declared.limits.WorkerLimits.{WorkerLimits}
use Rattle.gate_worker.specs.declared.worker.Cause.{Cause}
use Rattle.gate_worker.specs.Numbers.{item_numbers}
use Rattle.gate_worker.specs.Served.{unlimited, EndsSo}

-- the clients' numbers, in order
abbrev pub numbers_of : List ClientState → List ℕ
numbers_of clients = map (λ client. client.number) clients

-- each client's number, and the numbers of the items that were queued for it
abbrev pub queued_for_each : List ClientState → List (ℕ × List ℕ)
queued_for_each clients = map (λ client. (client.number, item_numbers client.queued)) clients

-- all are clients of this gate
abbrev pub AreOf : GateId → List ClientState → Type 0
AreOf gate clients = All (λ client. client.gate ≡ gate) clients

-- workers of agents, of the clients of this gate after this number, served these streams, and ended with these clients
-- and reports
abbrev pub EachEnded : WorkerLimits → (Moment → Type 0) → GateId → ℕ → List (Option (List (List ℕ))) → List ClientState
    → List (ℕ × List Report) → Type 0
EachEnded limits shows gate number [] [] [] = ⊤
EachEnded limits shows gate number (streams ∷ agents) (client ∷ clients) (reports ∷ others) =
    (reports.0 ≡ client.number)
    × ((cause : Cause)
    × EndsSo false limits shows streams (client_state gate (suc number) [] None) reports.1 client cause)
    × EachEnded limits shows gate (suc number) agents clients others
EachEnded limits shows gate number agents clients reports = ⊥

-- so did the worker of operators, who began with this client and ended for this cause, and then those of agents
pub record AllEnded (limits : WorkerLimits) (shows : Moment → Type 0) (gate : GateId)
    (agents : List (Option (List (List ℕ)))) (operators : Option (List (List ℕ))) (operator : ClientState)
    (cause : Cause) (clients : List ClientState) (reports : List (ℕ × List Report)) : Type 0 where
  pub first : ClientState
  pub others : List ClientState
  pub reported : ℕ × List Report
  pub others_reported : List (ℕ × List Report)
  pub clients_are : clients ≡ first ∷ others
  pub reports_are : reports ≡ reported ∷ others_reported
  pub named : reported.0 ≡ first.number
  pub ends : EndsSo true (unlimited limits) shows operators operator reported.1 first cause
  pub each : EachEnded limits shows gate 0 agents others others_reported
