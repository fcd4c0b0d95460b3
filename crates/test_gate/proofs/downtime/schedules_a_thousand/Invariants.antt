use Rattle.std.proofs.Common.{◌≡◌}
use Rattle.test_gate.proofs.downtime.schedules_a_thousand.Given as goal

abbrev pub invariant-entries : goal.invariant-entries
invariant-entries l = l.book.objects ≡ 2
