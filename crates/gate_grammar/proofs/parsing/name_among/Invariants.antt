use Rattle.std.proofs.Common.{◌≡◌, drop}
use Rattle.gate_grammar.specs.Parsing.{name_among}
use Rattle.gate_grammar.proofs.parsing.name_among.Given as goal

abbrev pub invariant-loop-name : goal.invariant-loop-name
invariant-loop-name l = name_among (drop l.name-index l.names) l.text ≡ name_among l.names l.text
