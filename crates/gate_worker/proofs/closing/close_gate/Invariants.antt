use Rattle.std.proofs.Common.{◌≡◌}
use Rattle.gate_worker.proofs.closing.close_gate.Given as goal

abbrev pub invariant-loop : goal.invariant-loop
invariant-loop g l =
    (goal.iterator-loop g).can_next l.iterator' × (goal.iterator-loop g).is_finite l.iterator' × (l.closer.cell ≡ l.closable.shared.now.gate.now.cell)
