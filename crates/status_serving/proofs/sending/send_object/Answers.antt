use Rattle.web_connections.proofs.FieldSteps.{on_ok}
use Rattle.status_serving.proofs.SendingSteps.{named_as}
use Rattle.status_serving.proofs.sending.send_object.Goals as goal

pub returns : goal.returns
returns g c =
    on_ok c.send.result
    (λ sent. named_as _ _ c.args.now _ _ c.in_ok-gateways.gateways.items _ _ _ _ _ _ c.in_ok-seen.ensures
    c.as_slice-known.ensures.value (rw c.from.ensures at c.in_ok-gateways.ensures) c.as_slice-shown.ensures.value
    c.in_ok-body.ensures c.in_ok-code.ensures (rw c.from_static-kind.ensures at sent))
    c.send.ensures
