use Rattle.status_export.specs.Document.{downtime_json}
use Rattle.status_export.proofs.WritingSteps.{one, last}
use Rattle.status_export.proofs.entries.push_downtime.Goals as goal

pub returns : goal.returns
unfolding downtime_json
returns c =
    last _ _ _ _ _ _ (one _ _ _ _ c.in_ok-begin_object.ensures) (
    last _ _ _ _ _ _ c.in_ok-text.ensures (
    last _ _ _ _ _ _ c.in_ok-number.ensures (
    last _ _ _ _ _ _ c.in_ok-field.ensures (
    last _ _ _ _ _ _ c.in_ok-service.ensures (
    last _ _ _ _ _ _ c.in_ok-flag.ensures (
    last _ _ _ _ _ _ c.in_ok-number-2.ensures (
    last _ _ _ _ _ _ c.in_ok-number-3.ensures (
    last _ _ _ _ _ _ c.in_ok-number-4.ensures (
    last _ _ _ _ _ _ c.in_ok-number-5.ensures (
    last _ _ _ _ _ _ c.in_ok-optional.ensures (
    last _ _ _ _ _ _ c.in_ok-field-2.ensures (
    last _ _ _ _ _ _ c.in_ok-field-3.ensures (
    one _ _ _ _ c.end_object.ensures)))))))))))))
