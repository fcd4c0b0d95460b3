use Rattle.std.proofs.Common.{rules}
use Rattle.gate_downtime.proofs.Fresh.{adds-push, there-push}
use Rattle.gate_downtime.proofs.tally.wake_at.Goals as goal

pub returns-in-Ok-clause-adds : goal.returns-in-Ok-clause-adds
returns-in-Ok-clause-adds c = record {
  items = adds-push _ _ _ _ c.in-Ok.ensures.heap_order c.in-Ok.ensures.permutation;
  capacity = search rules;
}

pub returns-in-Ok-clause-there : goal.returns-in-Ok-clause-there
returns-in-Ok-clause-there c = λ later. there-push _ _ _ _ c.in-Ok.ensures.permutation
