use Rattle.std.proofs.Common.{◌≤◌, length}
use Rattle.gate_start.proofs.lent.Lent.of.Given as goal

abbrev pub invariant-loop-number : goal.invariant-loop-number
invariant-loop-number g l = length l.sockets.items ≤ l.number
