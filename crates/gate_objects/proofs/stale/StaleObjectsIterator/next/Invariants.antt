use Rattle.std.proofs.Common.{◌≡◌, length}
use Rattle.gate_objects.specs.Book.{stale_objects}
use Rattle.gate_objects.proofs.stale.StaleObjectsIterator.next.Given as goal

abbrev pub invariant-loop-status : goal.invariant-loop-status
invariant-loop-status l =
    stale_objects l.self-inside.opening l.self-inside.moment l.self-inside.statuses.now
    ≡ stale_objects l.initial.self-inside.opening l.initial.self-inside.moment l.initial.self-inside.statuses.now

abbrev pub decreases-loop-status : goal.decreases-loop-status
decreases-loop-status l = length l.self-inside.statuses.now
