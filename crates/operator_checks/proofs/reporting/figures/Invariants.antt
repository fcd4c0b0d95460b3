use Rattle.std.proofs.Common.{◌≡◌, ◌++◌, drop}
use Rattle.std.specs.List.{flat_map}
use Rattle.operator_checks.specs.Findings.{figures_on}
use Rattle.operator_checks.proofs.reporting.figures.Given as goal

abbrev pub invariant-loop-finding : goal.invariant-loop-finding
invariant-loop-finding l = l.figures.items ++ flat_map figures_on (drop l.finding-index l.findings) ≡ flat_map figures_on l.findings
