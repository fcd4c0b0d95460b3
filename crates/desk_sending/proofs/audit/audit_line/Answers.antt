use Rattle.std.proofs.Common.{arith}
use Rattle.desk_sending.proofs.AuditSteps.{audit_clean}
use Rattle.desk_sending.proofs.audit.audit_line.Goals as goal

pub returns-clause-one : goal.returns-clause-one
returns-clause-one c =
    audit_clean c.args.sent.moment c.args.sent.user.now c.args.sent.gateway.now c.args.sent.line.now c.args.sent.answer.now
    (omega (arith, c.ranges.sent))
