use Rattle.std.proofs.Common.{arith}
use Rattle.restore_plan.proofs.RecordSteps.{applied_records, applied_moment, same_length}
use Rattle.restore_plan.proofs.rehearsal.applied.Goals as goal

pub returns-in-Ok-clause-moment : goal.returns-in-Ok-clause-moment
returns-in-Ok-clause-moment c =
    applied_moment c.args.now c.args.commands.items c.in_ok-records.records.items c.in-Ok.applier.moment c.in_ok-records.ensures
    c.in-Ok.ensures.moment

pub returns-in-Ok-clause-records : goal.returns-in-Ok-clause-records
returns-in-Ok-clause-records c =
    applied_records c.args.now c.args.commands.items c.in_ok-records.records.items c.in-Ok.applier.records c.in_ok-records.ensures
    c.in-Ok.ensures.records

pub returns-in-Err-TooMany-clause-fault : goal.returns-in-Err-TooMany-clause-fault
returns-in-Err-TooMany-clause-fault c =
    omega (arith, same_length c.args.now c.args.commands.items c.in_ok-records.records.items c.in_ok-records.ensures, c.in-Err-TooMany.ensures.too_many (cc))
