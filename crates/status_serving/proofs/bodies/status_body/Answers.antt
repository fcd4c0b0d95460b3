use Rattle.status_serving.proofs.BodySteps.{if_ok}
use Rattle.status_serving.proofs.SendingSteps.{status_made, no_status}
use Rattle.status_serving.proofs.bodies.status_body.Goals as goal

pub returns-in_ok-gateways : goal.returns-in_ok-gateways
returns-in_ok-gateways c =
    if_ok c.status_text.result
    (λ body text. status_made c.args.whole _ c.args.clock _ c.in_ok-gateways.gateways.items _ _ _ _ c.if-whole.true
    (rw c.from.ensures at c.in_ok-gateways.ensures) c.as_slice.ensures.value text)
    c.status_text.ensures

pub returns-else-whole : goal.returns-else-whole
returns-else-whole c = no_status c.args.whole _ c.args.clock _ _ _ _ c.if-whole.false c.new.ensures.items
