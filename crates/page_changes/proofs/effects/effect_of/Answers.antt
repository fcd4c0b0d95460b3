use Rattle.status_reading.specs.Rows.{page_view}
use Rattle.page_changes.proofs.OwnLaw.{is_own}
use Rattle.page_changes.proofs.effects.effect_of.Goals as goal

pub returns-clause-own : goal.returns-clause-own
returns-clause-own c =
    λ sound earlier other made is.
    is_own (page_view c.args.before.now) earlier (page_view c.args.after.now) c.args.body.now other made c.effect_between.result
    c.effect_between.ensures sound is
