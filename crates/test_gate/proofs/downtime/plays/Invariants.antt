use Rattle.std.proofs.Common.{◌≡◌}
use Rattle.test_gate.proofs.downtime.plays.Given as goal

abbrev pub invariant-steps : goal.invariant-steps
invariant-steps l = l.book.objects ≡ 2
