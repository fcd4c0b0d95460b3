use Rattle.std.proofs.Common.{◌≡◌, ℕ, List, ◌++◌, length}
use Rattle.gate_model.specs.Escaping.{escaped}
use Rattle.gate_streams.specs.Sink.{Writes}
use Rattle.gate_printing.proofs.escaping.put_escaped.Given as goal

abbrev pub invariant-loop-run : goal.invariant-loop-run
invariant-loop-run g l =
    (done : List ℕ) × Writes (g.W.Sink.state l.fn.output) (g.W.Sink.state l.output) done
    × (done ++ escaped l.rest ≡ escaped l.fn.text)

abbrev pub decreases-loop-run : goal.decreases-loop-run
decreases-loop-run g l = length l.rest
