-- The clients of a new gate are all of that gate.
use Rattle.std.proofs.Common.{◌≡◌, ℕ, zero, suc, refl, arith}
use Rattle.std.specs.Prelude.{All, None, []}
use Rattle.std.proofs.lemmas.List.Elements.{All-push}
use Rattle.gate_queue.specs.Gate.{GateId}
use Rattle.gate_queue.specs.Client.{ClientState, client_state}
use Rattle.gate_queue.specs.Opening.{new_clients}

pub all_of_gate : (gate : GateId) (n : ℕ) → All (λ (client : ClientState). client.gate ≡ gate) (new_clients gate n)
all_of_gate gate zero = λ k d less. absurd (omega arith)
all_of_gate gate (suc n) = All-push (λ (client : ClientState). client.gate ≡ gate) (new_clients gate n) (client_state gate (suc n) [] None) (all_of_gate gate n) refl
