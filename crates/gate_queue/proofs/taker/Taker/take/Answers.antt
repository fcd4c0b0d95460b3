use Rattle.std.proofs.Common.{subst, ◌∙◌}
use Rattle.std.specs.Prelude.{IfNone}
use Rattle.gate_queue.specs.Taker.{TakerState, HasAll}
use Rattle.gate_queue.proofs.Passes.{sees_rest_as, takes_as, begins_each, after_pop, none_left}
use Rattle.gate_queue.proofs.taker.Taker.take.Goals as goal

pub pop_as-requires-clause-rule : goal.pop_as-requires-clause-rule
pop_as-requires-clause-rule g c = let i = c.self.invariant in (takes_as _ _ i.1, sees_rest_as _ _ i.1)

pub invariant_of-self : goal.invariant_of-self
invariant_of-self g c =
    let i = c.self.invariant in
    let a = after_pop _ _ _ _ i.1 i.2 i.3 c.pop_as.ensures.rule in (c.pop_as.ensures.queue.2 ∙ i.0, a.0, a.1, a.2)

pub returns-clause-all : goal.returns-clause-all
returns-clause-all g c = subst (λ (s : TakerState). IfNone c.pop_as.result (HasAll s)) c.self.view_is (none_left _ _ _ _ _ _ _ c.self.invariant.2 c.pop_as.ensures.rule)

pub returns-clause-begins : goal.returns-clause-begins
returns-clause-begins g c =
    let i = c.self.invariant in
    let a = after_pop _ _ _ _ i.1 i.2 i.3 c.pop_as.ensures.rule in begins_each _ _ a.1 a.2
