use Rattle.std.proofs.Common.{◌≡◌, ◌+◌, ◌≤◌, List, ◌++◌, length, vec_len}
use Rattle.gate_worker.specs.inner.Starting.{JoinsAll}
use Rattle.gate_worker.proofs.workers.join_agents.Given as goal

abbrev pub invariant-loop-handle : goal.invariant-loop-handle
invariant-loop-handle g l =
    (length l.collected.ended.items + length l.started.items ≤ l.collected.ended.cap)
    × (length l.collected.ended.items + length l.started.items ≤ l.collected.reports.cap)
    × (joined : List _) × (l.fn.started.items ≡ l.started.items ++ joined)
    × JoinsAll (λ handle. g.P.Promise.kept_by handle.promise) joined l.fn.collected l.collected

abbrev pub decreases-loop-handle : goal.decreases-loop-handle
decreases-loop-handle g l = vec_len l.started
