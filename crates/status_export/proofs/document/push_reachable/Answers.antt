use Rattle.status_export.proofs.WritingSteps.{one, last}
use Rattle.status_export.proofs.document.push_reachable.Goals as goal

pub returns : goal.returns
returns c =
    last _ _ _ _ _ _ (one _ _ _ _ c.in_ok-begin_object.ensures) (
    last _ _ _ _ _ _ c.in_ok-text.ensures (
    last _ _ _ _ _ _ c.in_ok-flag.ensures (
    last _ _ _ _ _ _ c.in_ok-number.ensures (
    last _ _ _ _ _ _ c.in_ok-optional.ensures (
    last _ _ _ _ _ _ c.in_ok-push_alarms.ensures (
    one _ _ _ _ c.end_object.ensures))))))
