use Rattle.std.proofs.Common.{◌≡◌, ◌++◌, drop}
use Rattle.std.specs.List.{flat_map, zip}
use Rattle.gate_lines.specs.LogPage.{log_line, log_text}
use Rattle.gate_lines.proofs.lines.log_page.Given as goal

abbrev pub invariant-loop-index : goal.invariant-loop-index
invariant-loop-index l = l.page.items ++ flat_map log_line (zip (drop l.index l.records) (drop l.index l.outcomes)) ≡ log_text l.records l.outcomes
