-- The parts with which a gate is opened. Own rules.
use Rattle.std.specs.Prelude.{◌≡◌, ℕ, zero, suc, List, [], ◌∷◌, ◌++◌, None}
use Rattle.gate_core.specs.Limits.{Limits}
use Rattle.gate_queue.specs.Gate.{GateId}
use Rattle.gate_queue.specs.Knowledge.{CloseKnowledge, close_knowledge}
use Rattle.gate_queue.specs.Client.{ClientState, client_state}
use Rattle.gate_queue.specs.Taker.{TakerState, taker_state}

-- the first n clients of a new gate, in order: nothing is queued for any of them, and none knows of a close
abbrev pub new_clients : GateId → ℕ → List ClientState
new_clients gate zero = []
new_clients gate (suc n) = new_clients gate n ++ client_state gate (suc n) [] None ∷ []

-- a new gate with these limits: its taker has taken nothing, neither it nor the closer knows of a close, and its clients
-- are all there
abbrev pub IsNewGate : Limits → GateId → TakerState → CloseKnowledge → List ClientState → Type 0
IsNewGate limits gate taker closer clients = (gate.limits ≡ limits) × (taker ≡ taker_state gate [] [] None)
    × (closer ≡ close_knowledge gate.cell None) × (clients ≡ new_clients gate limits.clients)
