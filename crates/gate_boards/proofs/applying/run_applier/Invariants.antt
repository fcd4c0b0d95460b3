use Rattle.std.proofs.Common.{◌≡◌, ◌≤◌}
use Rattle.std.specs.Prelude.{IsSome}
use Rattle.gate_model.specs.Record.{items_of_records}
use Rattle.gate_boards.specs.Applying.{GoesByClock, IsSameLog}
use Rattle.gate_boards.proofs.applying.run_applier.Given as goal

abbrev pub invariant-loop : goal.invariant-loop
invariant-loop g l =
    (goal.iterator-loop g).can_next l.iterator' × (goal.iterator-loop g).is_finite l.iterator'
    × (l.taker.gate ≡ l.gate) × (items_of_records l.applier.records ≡ l.taker.taken) × (l.taker.ended ≡ l.initial.taker.ended)
    × IsSameLog l.initial.applier l.applier
    × (l.last.rest_millis ≤ 5000)
    × GoesByClock (g.K.Clock.state l.fn.clock) (g.K.Clock.state l.clock) l.initial.applier l.applier
    × (IsSome (g.H.Hold.seen l.fn.hold) → IsSome (g.H.Hold.seen l.hold))
