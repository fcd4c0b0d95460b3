use Rattle.status_reading.proofs.FieldSteps.{IsTaken}
use Rattle.status_reading.proofs.cuts.split.Given as goal

abbrev pub invariant-loop-index : goal.invariant-loop-index
invariant-loop-index l = IsTaken l.fn.text l.fields l.index l.rest
