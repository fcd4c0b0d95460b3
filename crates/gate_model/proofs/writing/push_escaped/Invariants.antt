use Rattle.std.proofs.Common.{◌≡◌, ◌++◌, length}
use Rattle.std.specs.Io.{StartsWith}
use Rattle.gate_model.specs.Escaping.{escaped}
use Rattle.gate_model.proofs.writing.push_escaped.Given as goal

abbrev pub invariant-loop-run : goal.invariant-loop-run
invariant-loop-run l = (l.out.items ++ escaped l.rest ≡ l.fn.out.items ++ escaped l.fn.text) × StartsWith l.out.items l.fn.out.items

abbrev pub decreases-loop-run : goal.decreases-loop-run
decreases-loop-run l = length l.rest
