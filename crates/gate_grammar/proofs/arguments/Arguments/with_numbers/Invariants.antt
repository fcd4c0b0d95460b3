use Rattle.std.proofs.Common.{◌≡◌, ◌+◌, ◌≤◌, ◌++◌, map, drop, length}
use Rattle.gate_grammar.specs.Arguments.{Number}
use Rattle.gate_grammar.specs.inner.Values.{value_of}
use Rattle.gate_grammar.proofs.arguments.Arguments.with_numbers.Given as goal

abbrev pub invariant-loop-number : goal.invariant-loop-number
invariant-loop-number l = record {
  items : map value_of l.self-inside.items.items ++ map Number (drop l.number-index l.numbers) ≡ l.fn.self ++ map Number l.numbers;
  room : length l.self-inside.items.items + length l.numbers ≤ 9 + l.number-index;
}
