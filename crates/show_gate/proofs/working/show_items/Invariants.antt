use Rattle.std.proofs.Common.{◌≡◌}
use Rattle.show_gate.proofs.working.show_items.Given as goal

abbrev pub invariant-loop : goal.invariant-loop
invariant-loop g l = l.taker.gate ≡ l.gate
