use Rattle.std.proofs.Common.{◌≡◌, ◌++◌, map, drop}
use Rattle.gate_grammar.specs.Spelling.{joined}
use Rattle.gate_grammar.specs.Canonical.{StartsWith, shown}
use Rattle.gate_grammar.specs.inner.Values.{value_of}
use Rattle.gate_grammar.proofs.canonical.push_arguments.Given as goal

abbrev pub invariant-loop-argument : goal.invariant-loop-argument
invariant-loop-argument l = record {
  items : l.out.items ++ joined (map shown (map value_of (drop l.argument-index l.arguments))) ≡ l.fn.out.items ++ joined (map shown (map value_of l.arguments));
  starts : StartsWith l.out.items l.fn.out.items;
}
