use Rattle.operator_sending.proofs.requests.send_one.Goals as goal

pub returns-in_ok-status-in-Ok-clause-reported : goal.returns-in_ok-status-in-Ok-clause-reported
returns-in_ok-status-in-Ok-clause-reported g c =
    let found = c.in-Ok.ensures in (
      found.0,
      found.1,
      record {
        ending = c.in-Ok.ending;
        is_end = found.2;
        reported = c.in_ok-status-in-Ok.ensures.reported;
        status_is = c.in_ok-status-in-Ok.ensures.status;
      },
    )
