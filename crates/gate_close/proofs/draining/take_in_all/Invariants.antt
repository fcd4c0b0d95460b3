use Rattle.gate_close.specs.inner.Draining.{TakesInAll}
use Rattle.gate_close.proofs.draining.take_in_all.Given as goal

abbrev pub invariant-loop-ended : goal.invariant-loop-ended
invariant-loop-ended l = TakesInAll l.yielded l.initial.taker l.taker
