use Rattle.status_merge.proofs.AskingSteps.{number-Ok, number-Err}
use Rattle.status_merge.proofs.query.number_of.Goals as goal

pub returns-in-Ok : goal.returns-in-Ok
returns-in-Ok c = number-Ok c.args.text.now c.in-Ok.number c.in-Ok.ensures.value.0

pub returns-in-Err : goal.returns-in-Err
returns-in-Err c = number-Err c.args.text.now c.in-Err.ensures.value.0
