use Rattle.gate_queue.proofs.Passes.{configures_as}
use Rattle.gate_queue.proofs.opening.begin.Goals as goal

pub another-blank-requires-clause-rule : goal.another-blank-requires-clause-rule
another-blank-requires-clause-rule g c = configures_as _ _ _ _ _ c.requires.pass.1
