use Rattle.status_serving.proofs.BodySteps.{if_ok}
use Rattle.status_serving.proofs.SendingSteps.{object_made, no_object}
use Rattle.status_serving.proofs.naming.object_body.Goals as goal

pub returns-in_ok-changes : goal.returns-in_ok-changes
returns-in_ok-changes c =
    if_ok c.object_text.result
    (λ body text. object_made c.args.whole _ c.args.clock _ _ c.in_ok-changes.changes.items _ _ _ c.if-whole.true
    c.in_ok-changes.ensures c.as_slice.ensures.value text)
    c.object_text.ensures

pub returns-else-whole : goal.returns-else-whole
returns-else-whole c = no_object c.args.whole _ c.args.clock _ _ _ _ c.if-whole.false c.new.ensures.items
