use Rattle.std.proofs.Common.{◌≡◌}
use Rattle.gate_model.specs.Record.{items_of_records}
use Rattle.test_gate.proofs.parts.applied_until_closed.Given as goal

abbrev pub invariant-loop : goal.invariant-loop
invariant-loop g l =
    (goal.iterator-loop g).can_next l.iterator' × (goal.iterator-loop g).is_finite l.iterator'
    × (l.taker.gate ≡ l.gate) × (items_of_records l.applier.records ≡ l.taker.taken)
