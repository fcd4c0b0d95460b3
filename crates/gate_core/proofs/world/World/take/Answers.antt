use Rattle.std.proofs.Common.{rules}
use Rattle.gate_core.proofs.Calls.{take_stands}
use Rattle.gate_core.proofs.world.World.take.Goals as goal

pub returns-clause-stands : goal.returns-clause-stands
returns-clause-stands c = take_stands c.args.self.now _ c.pop_front.result (search rules) (search rules)
