use Rattle.status_reading.specs.Rows.{page_view}
use Rattle.page_changes.proofs.OutcomeLaw.{is_foreseen}
use Rattle.page_changes.proofs.foreseen.foreseen_outcome.Goals as goal

pub returns-clause-gateway : goal.returns-clause-gateway
returns-clause-gateway c = is_foreseen c.outcome_on.result (page_view c.args.page.now) c.args.body.now c.outcome_on.ensures
