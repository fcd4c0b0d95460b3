use Rattle.std.proofs.Common.{ap, ◌∙◌}
use Rattle.log_reading.specs.declared.lines.TheConstants.{OUTCOMES}
use Rattle.log_reading.specs.inner.Lines.{outcome_among}
use Rattle.log_reading.proofs.LineSteps.{outcome_again}
use Rattle.log_reading.proofs.lines.outcome_named.Goals as goal

pub returns : goal.returns
returns c = λ one is. c.outcome_among.ensures ∙ ap (outcome_among OUTCOMES) is ∙ outcome_again one
