use Rattle.std.proofs.Common.{◌≡◌, ◌++◌, drop}
use Rattle.status_serving.specs.Changing.{change_lines}
use Rattle.status_serving.proofs.changing.change_lines.Given as goal

abbrev pub invariant-loop-shown : goal.invariant-loop-shown
invariant-loop-shown l = l.lines.items ++ change_lines (drop l.shown-index l.changes) ≡ change_lines l.changes
