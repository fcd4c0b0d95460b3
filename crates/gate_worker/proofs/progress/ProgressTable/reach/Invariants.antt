use Rattle.std.proofs.Common.{◌+◌, ◌-◌, vec_len}
use Rattle.gate_worker.specs.inner.Progress.{IsAsBefore}
use Rattle.gate_worker.proofs.progress.ProgressTable.reach.Given as goal

abbrev pub invariant-loop-self : goal.invariant-loop-self
invariant-loop-self l = IsAsBefore l.fn.self l.self

abbrev pub decreases-loop-self : goal.decreases-loop-self
decreases-loop-self l = (l.place + 1) - vec_len l.self.entries
