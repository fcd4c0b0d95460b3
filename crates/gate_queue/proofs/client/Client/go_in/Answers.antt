use Rattle.std.proofs.Common.{sym, ap, ◌∙◌}
use Rattle.gate_queue.proofs.Passes.{takes_in_as, begins_each, after_take_in}
use Rattle.gate_queue.proofs.client.Client.go_in.Goals as goal

pub absorb-requires-clause-rule : goal.absorb-requires-clause-rule
absorb-requires-clause-rule c = takes_in_as _ _ _ _ _ _ _ c.taker.invariant.1 c.self.invariant.1

pub invariant_of-taker : goal.invariant_of-taker
invariant_of-taker c =
    let i = c.taker.invariant in
    let limits = ap (λ k. k.gate.limits.clients) c.self.view_is ∙ ap (λ k. k.limits.clients) (c.requires.ended ∙ sym c.requires.gate) ∙ ap (λ s. s.gate.limits.clients) (sym c.taker.view_is) in
    let a = after_take_in _ _ _ _ _ _ _ _ i.1 i.2 c.self.invariant.1 limits c.absorb.ensures.rule c.learn_as.ensures.queue.1 c.learn_as.ensures.rule in
    (c.learn_as.ensures.queue.0.2 ∙ c.absorb.ensures.queue.2 ∙ i.0, a.0, a.1, a.2)

pub returns-clause-begins : goal.returns-clause-begins
returns-clause-begins c =
    let i = c.taker.invariant in
    let limits = ap (λ k. k.gate.limits.clients) c.self.view_is ∙ ap (λ k. k.limits.clients) (c.requires.ended ∙ sym c.requires.gate) ∙ ap (λ s. s.gate.limits.clients) (sym c.taker.view_is) in
    let a = after_take_in _ _ _ _ _ _ _ _ i.1 i.2 c.self.invariant.1 limits c.absorb.ensures.rule c.learn_as.ensures.queue.1 c.learn_as.ensures.rule in begins_each _ _ a.1 a.2
