use Rattle.gate_worker.specs.inner.Progress.{IsAsBefore}
use Rattle.gate_worker.proofs.progress.ProgressTable.try_to_reach.Given as goal

abbrev pub invariant-loop : goal.invariant-loop
invariant-loop g l = IsAsBefore l.fn.self l.self
