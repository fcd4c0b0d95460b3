use Rattle.web_connections.proofs.FieldSteps.{on_ok}
use Rattle.status_serving.proofs.SendingSteps.{shown_as}
use Rattle.status_serving.proofs.sending.send_status.Goals as goal

pub returns : goal.returns
returns g c =
    on_ok c.send.result
    (λ sent. shown_as _ _ c.args.now _ _ _ _ _ _ _ _ _ c.in_ok-seen.ensures c.as_slice-known.ensures.value
    c.in_ok-body.ensures c.status_code.ensures c.status_kind.ensures sent)
    c.send.ensures
