use Rattle.std.proofs.Common.{◌-◌}
use Rattle.gate_model.proofs.SearchSteps.{IsSearching}
use Rattle.gate_model.proofs.search.find_by_id.Given as goal

abbrev pub invariant-loop-low : goal.invariant-loop-low
invariant-loop-low g l = IsSearching g.T.HasId.id_of l.values l.id l.low l.high l.initial.steps l.steps

abbrev pub decreases-loop-low : goal.decreases-loop-low
decreases-loop-low g l = l.high - l.low
