-- Only private functions use this: agents' workers that were started, the last one first, and those that are joined.
use Rattle.std.specs.Prelude.{◌≡◌, ℕ, suc, false, List, [], ◌∷◌, ◌++◌, length, Option, None}
use Rattle.gate_model.specs.declared.record.Moment.{Moment}
use Rattle.gate_queue.specs.Gate.{GateId}
use Rattle.gate_queue.specs.Client.{client_state}
use Rattle.gate_worker.specs.declared.limits.WorkerLimits.{WorkerLimits}
use Rattle.gate_worker.specs.declared.worker.WorkerEnd.{WorkerEnd}
use Rattle.gate_worker.specs.declared.collected.Collected.{Collected}
use Rattle.gate_worker.specs.Answered.{reports_of_each}
use Rattle.gate_worker.specs.Served.{EndsSo}

-- what returns so has served these streams, as the client of the gate with this number
abbrev pub ReturnsAs : WorkerLimits → (Moment → Type 0) → GateId → ℕ → Option (List (List ℕ)) → (WorkerEnd → Type 0)
    → Type 0
ReturnsAs limits shows gate number streams returns = (end : WorkerEnd) → returns end
    → EndsSo false limits shows streams (client_state gate number [] None) end.reports.items end.ended end.cause

-- of these agents, one after the other from the last one on, the workers were started, each with a handle of what it
-- returns; these agents are left
abbrev pub AreStarted : {H : Type 0} → (H → WorkerEnd → Type 0) → WorkerLimits → (Moment → Type 0) → GateId
    → List (Option (List (List ℕ))) → List H → List (Option (List (List ℕ))) → Type 0
AreStarted returns limits shows gate agents [] left = left ≡ agents
AreStarted returns limits shows gate agents (handle ∷ handles) left =
    (others : List (Option (List (List ℕ)))) × (streams : Option (List (List ℕ))) × (agents ≡ others ++ streams ∷ [])
    × ReturnsAs limits shows gate (suc (length others)) streams (returns handle)
    × AreStarted returns limits shows gate others handles left

-- one more end is collected
pub record Adds (end : WorkerEnd) (old new : Collected) : Type 0 where
  pub ended : new.ended.items ≡ old.ended.items ++ end.ended ∷ []
  pub reports : reports_of_each new.reports.items
      ≡ reports_of_each old.reports.items ++ (end.ended.number, end.reports.items) ∷ []
  pub ended_room : new.ended.cap ≡ old.ended.cap
  pub reports_room : new.reports.cap ≡ old.reports.cap

-- the ends of these workers are collected, that of the last one first
abbrev pub JoinsAll : {H : Type 0} → (H → WorkerEnd → Type 0) → List H → Collected → Collected → Type 0
JoinsAll returns [] old new = new ≡ old
JoinsAll returns (handle ∷ handles) old new =
    (middle : Collected) × (end : WorkerEnd) × JoinsAll returns handles old middle × returns handle end × Adds end middle new
