use Rattle.std.proofs.Common.{◌≤◌, length}
use Rattle.operator_checking.proofs.checking.findings_at.Given as goal

abbrev pub invariant-loop-word : goal.invariant-loop-word
invariant-loop-word g l = l.word-index ≤ length l.findings.items
