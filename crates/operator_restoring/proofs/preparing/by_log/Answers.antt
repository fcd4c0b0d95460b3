use Rattle.operator_restoring.proofs.RestoredSteps.{of_log}
use Rattle.operator_restoring.proofs.preparing.by_log.Goals as goal

pub returns : goal.returns
returns c =
    let is = c.in_ok-prospect.ensures.prospect in
    of_log c.args.tables.fresh c.args.tables.of_log c.args.page.now is.0 c.args.now c.in_ok-prospect.prospect is.2
