use Rattle.std.proofs.Common.{◌≡◌}
use Rattle.gate_model.specs.Record.{items_of_records}
use Rattle.gate_queue.specs.Taker.{taker_state}
use Rattle.gate_close.specs.DrainedClose.{AppliesMore}
use Rattle.gate_close.proofs.draining.drain.Given as goal

abbrev pub invariant-loop : goal.invariant-loop
invariant-loop g l =
    (goal.iterator-loop g).can_next l.iterator' × (goal.iterator-loop g).is_finite l.iterator'
    × (l.taker ≡ taker_state l.initial.taker.gate (items_of_records l.applier.records) l.initial.taker.ended l.initial.taker.known_close)
    × AppliesMore l.now l.initial.applier l.applier
