use Rattle.std.proofs.Common.{◌≡◌}
use Rattle.gate_start.proofs.lent.Lent.take.Given as goal

abbrev pub invariant-loop-index : goal.invariant-loop-index
invariant-loop-index l = l.self ≡ l.fn.self
