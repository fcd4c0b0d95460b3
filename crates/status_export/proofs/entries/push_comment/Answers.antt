use Rattle.status_export.specs.Document.{comment_json}
use Rattle.status_export.proofs.WritingSteps.{one, last}
use Rattle.status_export.proofs.entries.push_comment.Goals as goal

pub returns : goal.returns
unfolding comment_json
returns c =
    last _ _ _ _ _ _ (one _ _ _ _ c.in_ok-begin_object.ensures) (
    last _ _ _ _ _ _ c.in_ok-text.ensures (
    last _ _ _ _ _ _ c.in_ok-number.ensures (
    last _ _ _ _ _ _ c.in_ok-field.ensures (
    last _ _ _ _ _ _ c.in_ok-service.ensures (
    last _ _ _ _ _ _ (rw c.source_word.ensures at c.in_ok-text-2.ensures) (
    last _ _ _ _ _ _ c.in_ok-flag.ensures (
    last _ _ _ _ _ _ c.in_ok-number-2.ensures (
    last _ _ _ _ _ _ c.in_ok-field-2.ensures (
    last _ _ _ _ _ _ c.in_ok-field-3.ensures (
    one _ _ _ _ c.end_object.ensures))))))))))
