use Rattle.web_connections.proofs.FieldSteps.{on_ok}
use Rattle.status_serving.proofs.SendingSteps.{listed_as}
use Rattle.status_serving.proofs.sending.send_changes.Goals as goal

pub returns : goal.returns
returns g c =
    on_ok c.send.result
    (λ sent. listed_as _ _ c.args.now _ _ _ _ _ _ c.in_ok-seen.ensures c.as_slice.ensures.value c.in_ok-body.ensures
    (rw c.kind_of.ensures at sent))
    c.send.ensures
