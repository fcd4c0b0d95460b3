use Rattle.std.proofs.Common.{◌≡◌, drop}
use Rattle.log_reading.specs.inner.Lines.{outcome_among}
use Rattle.log_reading.proofs.lines.outcome_among.Given as goal

abbrev pub invariant-loop-outcome : goal.invariant-loop-outcome
invariant-loop-outcome l = outcome_among (drop l.outcome-index l.outcomes) l.word ≡ outcome_among l.outcomes l.word
