use Rattle.std.proofs.Common.{arith}
use Rattle.gate_queue.proofs.Passes.{makes_client_as}
use Rattle.gate_queue.proofs.opening.next_client.Goals as goal

pub another-requires-clause-rule : goal.another-requires-clause-rule
another-requires-clause-rule c = let low = c.requires.number.0 in let high = c.requires.number.1 in makes_client_as _ _ _ _ _ _ c.requires.pass.1 (omega arith)
