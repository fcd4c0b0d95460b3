use Rattle.std.proofs.Common.{rules}
use Rattle.gate_queue.proofs.Moves.{begins}
use Rattle.gate_queue.proofs.Passes.{new_taker}
use Rattle.gate_queue.proofs.opening.open_all.Goals as goal

pub ruled-requires-clause-rule : goal.ruled-requires-clause-rule
ruled-requires-clause-rule c = begins

pub invariant_of-taker : goal.invariant_of-taker
invariant_of-taker c =
    let p = c.in_ok-clients.ensures.pass in
    let t = new_taker _ _ _ _ _ c.requires.clients.1 p.1 (c.in_ok-counts.ensures.items_if_clones_equal (λ y e. search rules)) in (p.0.1, t.0, t.1, t.2)
