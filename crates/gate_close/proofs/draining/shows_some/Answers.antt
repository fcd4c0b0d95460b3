use Rattle.gate_close.proofs.DrainingSteps.{some_left}
use Rattle.gate_close.proofs.draining.shows_some.Goals as goal

pub returns : goal.returns
returns c = let held = c.conservation.ensures in some_left c.args.taker.now c.requires.all held.0 held.1 c.requires.count
