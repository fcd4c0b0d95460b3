use Rattle.std.proofs.Common.{length}
use Rattle.gate_grammar.proofs.writability.+are_writable.Given as goal

abbrev pub decreases-are_writable : goal.decreases-are_writable
decreases-are_writable l = length l.arguments.now
