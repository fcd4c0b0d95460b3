use Rattle.std.proofs.Common.{◌≡◌, ℕ, List, ◌++◌, drop, map}
use Rattle.gate_grammar.specs.inner.Values.{value_of}
use Rattle.gate_streams.specs.Sink.{Writes}
use Rattle.gate_printing.specs.inner.Printed.{fields_text}
use Rattle.gate_printing.proofs.arguments.put_arguments.Given as goal

abbrev pub invariant-loop-argument : goal.invariant-loop-argument
invariant-loop-argument g l =
    (done : List ℕ) × Writes (g.W.Sink.state l.fn.output) (g.W.Sink.state l.output) done
    × (done ++ fields_text (map value_of (drop l.argument-index l.arguments)) ≡ fields_text (map value_of l.arguments))
