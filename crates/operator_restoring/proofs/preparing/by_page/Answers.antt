use Rattle.operator_restoring.proofs.RestoredSteps.{of_page}
use Rattle.operator_restoring.proofs.preparing.by_page.Goals as goal

pub returns : goal.returns
returns c = of_page c.args.fresh c.args.text.now c.args.old c.args.now c.in_ok-prospect.prospect c.in_ok-prospect.ensures.prospect
