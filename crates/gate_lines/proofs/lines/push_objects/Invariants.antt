use Rattle.std.proofs.Common.{◌≡◌, ◌++◌, drop}
use Rattle.std.specs.List.{flat_map}
use Rattle.gate_lines.specs.Lines.{object_line}
use Rattle.gate_lines.proofs.lines.push_objects.Given as goal

abbrev pub invariant-loop-row : goal.invariant-loop-row
invariant-loop-row l = l.out.items ++ flat_map object_line (drop l.row-index l.rows) ≡ l.fn.out.items ++ flat_map object_line l.rows
