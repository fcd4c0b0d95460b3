use Rattle.std.proofs.Common.{rules}
use Rattle.restore_plan.proofs.NumberSteps.{numbered}
use Rattle.restore_plan.proofs.rehearsal.rehearse.Goals as goal

pub returns-clause-numbered : goal.returns-clause-numbered
returns-clause-numbered c = numbered c.args.fresh c.args.now c.args.commands.items (search rules)
