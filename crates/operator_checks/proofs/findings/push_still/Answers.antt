use Rattle.operator_checks.proofs.TextSteps.{last}
use Rattle.operator_checks.proofs.findings.push_still.Goals as goal

pub returns : goal.returns
returns c = last _ _ _ _ _ _ c.in_ok-extend_from_slice.ensures.items c.push_count.ensures
