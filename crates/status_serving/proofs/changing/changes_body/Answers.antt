use Rattle.status_serving.proofs.BodySteps.{if_ok}
use Rattle.status_serving.proofs.SendingSteps.{changes_made, no_changes}
use Rattle.status_serving.proofs.changing.changes_body.Goals as goal

pub returns-in_ok-changes : goal.returns-in_ok-changes
returns-in_ok-changes c =
    if_ok c.changes_text.result
    (λ body text. changes_made c.args.whole _ c.args.clock _ c.in_ok-gateways.gateways.items _ c.in_ok-changes.changes.items _ _ _
    c.if-whole.true (rw c.from.ensures at c.in_ok-gateways.ensures) c.as_slice.ensures.value
    c.in_ok-changes.ensures c.as_slice-then-whole.ensures.value text)
    c.changes_text.ensures

pub returns-else-whole : goal.returns-else-whole
returns-else-whole c = no_changes c.args.whole _ c.args.clock _ _ _ c.if-whole.false c.new.ensures.items
