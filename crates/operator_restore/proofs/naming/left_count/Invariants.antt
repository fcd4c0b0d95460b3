use Rattle.std.proofs.Common.{◌≡◌, ◌+◌, ◌≤◌, drop}
use Rattle.operator_restore.specs.Naming.{left_count}
use Rattle.operator_restore.proofs.naming.left_count.Given as goal

abbrev pub invariant-loop-fate : goal.invariant-loop-fate
invariant-loop-fate l = record {
  low : l.count ≤ l.fate-index;
  rest : l.count + left_count (drop l.fate-index l.fates) ≡ left_count l.fates;
}
