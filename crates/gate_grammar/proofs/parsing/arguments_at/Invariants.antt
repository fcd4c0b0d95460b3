use Rattle.std.proofs.Common.{◌≡◌, ◌+◌, drop, length}
use Rattle.gate_grammar.specs.Parsing.{values_at}
use Rattle.gate_grammar.proofs.ArgumentSteps.{read_after}
use Rattle.gate_grammar.proofs.parsing.arguments_at.Given as goal

abbrev pub invariant-loop-i : goal.invariant-loop-i
invariant-loop-i l = record {
  read : read_after l.arguments (values_at l.number (drop l.i l.kinds) l.rest) ≡ values_at 1 l.kinds l.fn.rest;
  number : l.number ≡ l.i + 1;
  count : length l.arguments ≡ l.i;
}
