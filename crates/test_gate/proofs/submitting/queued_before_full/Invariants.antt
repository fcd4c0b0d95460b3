use Rattle.std.proofs.Common.{◌≡◌}
use Rattle.test_gate.proofs.submitting.queued_before_full.Given as goal

abbrev pub invariant-loop-count : goal.invariant-loop-count
invariant-loop-count g l = l.client.gate ≡ l.gate
