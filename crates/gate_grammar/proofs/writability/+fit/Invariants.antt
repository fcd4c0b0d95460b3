use Rattle.std.proofs.Common.{length}
use Rattle.gate_grammar.proofs.writability.+fit.Given as goal

abbrev pub decreases-fit : goal.decreases-fit
decreases-fit l = length l.arguments.now
