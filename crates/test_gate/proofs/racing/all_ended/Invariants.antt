use Rattle.std.proofs.Common.{◌≡◌}
use Rattle.std.specs.Prelude.{All}
use Rattle.gate_queue.specs.Client.{ClientState}
use Rattle.test_gate.proofs.racing.all_ended.Given as goal

abbrev pub invariant-loop-client : goal.invariant-loop-client
invariant-loop-client g l = All (λ (client : ClientState). client.gate ≡ l.gate) l.all.items
