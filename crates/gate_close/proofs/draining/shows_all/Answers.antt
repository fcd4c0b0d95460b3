use Rattle.gate_close.proofs.DrainingSteps.{all_taken}
use Rattle.gate_close.proofs.draining.shows_all.Goals as goal

pub returns : goal.returns
returns c = let held = c.conservation.ensures in all_taken c.args.taker.now c.requires.all held.0 held.1 c.requires.count
