use Rattle.gate_close.proofs.DrainingSteps.{takes_in_next}
use Rattle.gate_close.proofs.draining.take_in_all.Goals as goal

pub loop-ended-preserved : goal.loop-ended-preserved
loop-ended-preserved c = takes_in_next _ _ _ _ _ c.loop-ended.invariant c.take_in.ensures.list
