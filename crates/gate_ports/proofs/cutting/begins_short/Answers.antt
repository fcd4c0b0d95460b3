use Rattle.std.proofs.Common.{sym}
use Rattle.gate_ports.proofs.Whole.{fewer_short, fewer_not_short}
use Rattle.gate_ports.proofs.cutting.begins_short.Goals as goal

pub returns-in-Some : goal.returns-in-Some
returns-in-Some c = sym (fewer_short c.args.bytes.now c.fewer.result.now _ _ c.fewer.ensures c.in-Some.ensures.some)

pub returns-in-None : goal.returns-in-None
returns-in-None c = sym (fewer_not_short c.args.bytes.now c.fewer.result.now c.fewer.ensures c.in-None.ensures.none)
