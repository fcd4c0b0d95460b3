use Rattle.status_export.proofs.WritingSteps.{one, last}
use Rattle.status_export.proofs.document.push_unreachable.Goals as goal

pub returns : goal.returns
returns c =
    last _ _ _ _ _ _ (one _ _ _ _ c.in_ok-begin_object.ensures) (
    last _ _ _ _ _ _ c.in_ok-text.ensures (
    last _ _ _ _ _ _ c.in_ok-flag.ensures (
    last _ _ _ _ _ _ c.in_ok-text-2.ensures (
    last _ _ _ _ _ _ c.in_ok-push_alarms.ensures (
    one _ _ _ _ c.end_object.ensures)))))
