use Rattle.std.proofs.Common.{◌≡◌, ◌++◌, drop}
use Rattle.operator_restore.specs.Naming.{left_lines}
use Rattle.operator_restore.proofs.naming.push_left.Given as goal

abbrev pub invariant-loop-fate : goal.invariant-loop-fate
invariant-loop-fate l = l.out.items ++ left_lines (drop l.fate-index l.fates) ≡ l.fn.out.items ++ left_lines l.fates
