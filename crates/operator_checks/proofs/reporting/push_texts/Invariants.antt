use Rattle.std.proofs.Common.{◌≡◌, ◌++◌, drop, codes}
use Rattle.std.specs.List.{flat_map}
use Rattle.operator_checks.specs.Findings.{finding_text, texts_of}
use Rattle.operator_checks.proofs.reporting.push_texts.Given as goal

abbrev pub invariant-loop-finding : goal.invariant-loop-finding
invariant-loop-finding l =
    l.out.items ++ flat_map (λ other. codes "; " ++ finding_text other) (drop l.finding-index l.rest)
    ≡ l.fn.out.items ++ texts_of l.findings
