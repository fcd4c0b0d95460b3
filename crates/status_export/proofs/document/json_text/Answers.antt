use Rattle.std.proofs.Common.{◌≡◌, refl, ap, ◌∙◌}
use Rattle.std.specs.Str.{IsUtf8}
use Rattle.json.specs.Json.{document}
use Rattle.json.specs.Lex.{tokens}
use Rattle.json.specs.Tree.{json_tokens}
use Rattle.status_merge.specs.Asking.{asked_by}
use Rattle.status_export.specs.Document.{status_document, compact_text}
use Rattle.status_export.specs.inner.Writing.{Adds}
use Rattle.status_export.proofs.WritingSteps.{one, more}
use Rattle.status_export.proofs.ReadingLaws.{read_tokens, shallow}
use Rattle.status_export.proofs.document.json_text.Goals as goal

-- what the calls wrote
written : (c : goal.After-into_inner) → Adds c.new-writer.result c.end_object.new.self (json_tokens (status_document c.args.gateways.now c.args.objects.now (asked_by c.args.query.now)))
written c =
    more _ _ _ _ _ (one _ _ _ _ c.in_ok-begin_object.ensures) (
    more _ _ _ _ _ c.in_ok-push_gateways.ensures (
    more _ _ _ _ _ c.in_ok-push_objects.ensures (
    more _ _ _ _ _ c.in_ok-push_comments.ensures (
    more _ _ _ _ _ c.in_ok-push_downtimes.ensures
    (one _ _ _ _ c.in_ok-end_object.ensures)))))

pub returns-clause-text : goal.returns-clause-text
returns-clause-text c =
    rw (c.into_inner.ensures.items, (written c).before, (written c).added, c.new-writer.ensures.before, c.new-writer.ensures.tokens, c.new.ensures.items)
    refl

pub returns-clause-utf8 : goal.returns-clause-utf8
returns-clause-utf8 c =
    let j = status_document c.args.gateways.now c.args.objects.now (asked_by c.args.query.now) in
    let text : c.into_inner.result.items ≡ compact_text j = returns-clause-text c in
    let whole : IsUtf8 (compact_text j) = rw ((written c).added, c.new-writer.ensures.tokens) at c.into_inner.ensures.utf8 in
    rw text whole

pub returns-clause-read : goal.returns-clause-read
returns-clause-read c =
    let j = status_document c.args.gateways.now c.args.objects.now (asked_by c.args.query.now) in
    let text : c.into_inner.result.items ≡ compact_text j = returns-clause-text c in
    let same : tokens (compact_text j) ≡ json_tokens j = rw ((written c).added, c.new-writer.ensures.tokens) at c.into_inner.ensures.reads_back in
    ap document text ∙ read_tokens j (compact_text j) same (shallow c.args.gateways.now c.args.objects.now (asked_by c.args.query.now))
