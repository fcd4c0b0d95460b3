use Rattle.status_export.proofs.WritingSteps.{one, last}
use Rattle.status_export.proofs.document.push_old.Goals as goal

pub returns : goal.returns
returns c =
    last _ _ _ _ _ _ (one _ _ _ _ c.in_ok-begin_object.ensures) (
    last _ _ _ _ _ _ c.in_ok-text.ensures (
    last _ _ _ _ _ _ c.in_ok-flag.ensures (
    last _ _ _ _ _ _ (rw c.as_str.ensures.value at c.in_ok-text-2.ensures) (
    last _ _ _ _ _ _ c.in_ok-number.ensures (
    last _ _ _ _ _ _ c.in_ok-optional.ensures (
    last _ _ _ _ _ _ c.in_ok-number-2.ensures (
    last _ _ _ _ _ _ c.in_ok-push_alarms.ensures (
    one _ _ _ _ c.end_object.ensures))))))))
