use Rattle.std.proofs.Common.{◌≡◌, ℕ, List, ◌++◌, drop}
use Rattle.std.specs.List.{flat_map, zip}
use Rattle.gate_lines.specs.LogPage.{log_line, log_text}
use Rattle.gate_streams.specs.Sink.{Writes}
use Rattle.gate_printing.proofs.page.print_log.Given as goal

abbrev pub invariant-loop-index : goal.invariant-loop-index
invariant-loop-index g l =
    (done : List ℕ) × Writes (g.W.Sink.state l.fn.output) (g.W.Sink.state l.output) done
    × (done ++ flat_map log_line (zip (drop l.index l.records) (drop l.index l.outcomes)) ≡ log_text l.records l.outcomes)
