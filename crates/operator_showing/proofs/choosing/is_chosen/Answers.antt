use Rattle.std.proofs.Common.{rules}
use Rattle.status_merge.specs.Asking.{asked_by}
use Rattle.operator_showing.proofs.ChosenSteps.{chosen_by}
use Rattle.operator_showing.proofs.choosing.is_chosen.Goals as goal

pub returns : goal.returns
returns c = chosen_by (asked_by c.args.query.now) c.args.object c.in_ok-select.field-0.items c.is_empty.result (search rules) c.in_ok-select.ensures
