use Rattle.std.proofs.Common.{◌≡◌}
use Rattle.test_gate.proofs.racing.attempted.Given as goal

abbrev pub invariant-loop-id : goal.invariant-loop-id
invariant-loop-id g l = l.client.gate ≡ l.gate
