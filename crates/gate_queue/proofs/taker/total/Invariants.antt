use Rattle.std.proofs.Common.{◌≡◌, ◌*◌, ◌^◌, ◌≤◌}
use Rattle.gate_queue.specs.inner.Passes.{total_counted}
use Rattle.gate_queue.proofs.taker.total.Given as goal

abbrev pub invariant-loop-count : goal.invariant-loop-count
invariant-loop-count l = (l.total ≡ total_counted l.counts l.count-index) × (l.total ≤ l.count-index * 2 ^ 32)
