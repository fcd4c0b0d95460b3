use Rattle.std.proofs.Common.{◌≡◌}
use Rattle.gate_worker.proofs.worker.has_room.Given as goal

abbrev pub invariant-loop : goal.invariant-loop
invariant-loop g l = l.reports.items ≡ l.fn.reports.items
