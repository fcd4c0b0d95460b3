use Rattle.operator_sending.proofs.requests.on_page.Goals as goal

pub returns-in-Err-clause-fault : goal.returns-in-Err-clause-fault
returns-in-Err-clause-fault g c = c.in-Err.ensures.fault c.args.request

pub returns-clause-carried_out : goal.returns-clause-carried_out
returns-clause-carried_out g c =
    let commands = c.in_ok-commands.ensures.commands in
    let done = c.in_ok-status.ensures.answered in (
      done.0,
      done.1,
      record {
        page = c.in-Ok.found.2;
        is_page = c.in-Ok.ensures.page;
        entered = c.in-Ok.found.0;
        user = c.in-Ok.found.1;
        bodies = commands.0;
        are_commands = commands.1;
        answered = rw (c.as_slice.ensures.value, commands.2) at done.2;
      },
    )
