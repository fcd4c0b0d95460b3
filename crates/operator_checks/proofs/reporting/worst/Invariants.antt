use Rattle.std.proofs.Common.{◌≡◌, max, drop}
use Rattle.operator_checks.specs.Findings.{worst}
use Rattle.operator_checks.proofs.reporting.worst.Given as goal

abbrev pub invariant-loop-finding : goal.invariant-loop-finding
invariant-loop-finding l = max (worst (drop l.finding-index l.findings)) l.worst ≡ worst l.findings
