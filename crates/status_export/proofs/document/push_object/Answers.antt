use Rattle.status_export.specs.Document.{object_json}
use Rattle.status_export.proofs.WritingSteps.{one, last}
use Rattle.status_export.proofs.document.push_object.Goals as goal

pub returns : goal.returns
unfolding object_json
returns c =
    last _ _ _ _ _ _ (one _ _ _ _ c.in_ok-begin_object.ensures) (
    last _ _ _ _ _ _ c.in_ok-text.ensures (
    last _ _ _ _ _ _ c.in_ok-field.ensures (
    last _ _ _ _ _ _ c.in_ok-service.ensures (
    last _ _ _ _ _ _ (rw c.state_name.ensures at c.in_ok-text-2.ensures) (
    last _ _ _ _ _ _ c.in_ok-number.ensures (
    last _ _ _ _ _ _ c.in_ok-flag.ensures (
    last _ _ _ _ _ _ c.in_ok-optional.ensures (
    last _ _ _ _ _ _ c.in_ok-flag-2.ensures (
    last _ _ _ _ _ _ (rw c.acknowledgement_word.ensures at c.in_ok-text-3.ensures) (
    last _ _ _ _ _ _ c.in_ok-number-2.ensures (
    last _ _ _ _ _ _ (rw c.is_unhandled.ensures at c.in_ok-flag-3.ensures) (
    last _ _ _ _ _ _ c.in_ok-field-2.ensures (
    one _ _ _ _ c.end_object.ensures)))))))))))))
