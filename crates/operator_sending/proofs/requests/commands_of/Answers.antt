use Rattle.operator_sending.proofs.ReportSteps.{fault_on}
use Rattle.operator_sending.proofs.requests.commands_of.Goals as goal

pub returns-in-Err-clause-fault : goal.returns-in-Err-clause-fault
returns-in-Err-clause-fault c =
    rw c.fault_of.ensures (fault_on c.args.entered c.args.user c.args.request c.in-Err.fault c.in-Err.ensures.fault)
