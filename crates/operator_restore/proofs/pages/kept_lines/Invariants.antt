use Rattle.std.proofs.Common.{◌≡◌, ◌++◌, map, drop}
use Rattle.operator_restore.specs.Pages.{kept_line}
use Rattle.operator_restore.proofs.pages.kept_lines.Given as goal

abbrev pub invariant-loop-row : goal.invariant-loop-row
invariant-loop-row l = l.lines.items ++ map kept_line (drop l.row-index l.rows) ≡ map kept_line l.rows
