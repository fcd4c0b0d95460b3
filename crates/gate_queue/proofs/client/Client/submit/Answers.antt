use Rattle.std.proofs.Common.{◌<◌, length, rules, arith, sym, ap, ◌∙◌, subst}
use Rattle.gate_queue.specs.Client.{ClientState, WasFull, CanBeFull}
use Rattle.gate_queue.proofs.Passes.{left_as, sends_as, sees_full_as, held_as}
use Rattle.gate_queue.proofs.client.Client.submit.Goals as goal

pub push_as-requires-clause-rule : goal.push_as-requires-clause-rule
push_as-requires-clause-rule g c =
    let i = c.self.invariant in
    let room = ap (λ k. k.limits.capacity) (c.gate.view_is ∙ sym c.requires ∙ ap (λ s. s.gate) (sym c.self.view_is)) in
    (sends_as _ _ _ _ _ _ _ i.1 room (let w = i.1.within in let n = c.if-self-from.false in omega arith), sees_full_as _ _ _ _ _ i.1)

pub returns-in-Err-clause-refused : goal.returns-in-Err-clause-refused
returns-in-Err-clause-refused g c =
    let r = c.in-Err.ensures.rule in
    let i = c.self.invariant in
    let room = ap (λ k. k.limits.capacity) (c.gate.view_is ∙ sym c.requires ∙ ap (λ s. s.gate) (sym c.self.view_is)) in
    let left = left_as _ _ _ _ i.1 (let w = i.1.within in let n = c.if-self-from.false in omega arith) in
    let held = held_as _ _ _ _ _ i.1 room r.2 in
    let full = subst (λ (s : ClientState). (length s.queued < s.gate.limits.quota) × WasFull s × CanBeFull s) c.self.view_is (left, held.0, held.1) in
    (ap (λ x. x.body) r.0, search rules, search rules, full.0, full.1, full.2)
