use Rattle.log_reading.proofs.lines.fields.Goals as goal

pub returns-in_err-stamp : goal.returns-in_err-stamp
returns-in_err-stamp c = rw c.from_residual.ensures (λ line fits is. c.in_err-stamp.ensures line.stamp _ fits is)

pub returns-in_err-command : goal.returns-in_err-command
returns-in_err-command c =
    rw c.from_residual-in_err-command.ensures
    (λ line fits is.
    let stamp = c.in_ok-stamp.ensures line.stamp _ fits is in
    c.in_err-command.ensures line.command line.outcome stamp.1)

pub returns : goal.returns
returns c =
    λ line fits is.
    let stamp = c.in_ok-stamp.ensures line.stamp _ fits is in
    let ending = c.in_ok-command.ensures line.command line.outcome stamp.1 in
    λ i. record { stamp = stamp.0 i; command = ending.0 i; outcome = ending.1 i }
