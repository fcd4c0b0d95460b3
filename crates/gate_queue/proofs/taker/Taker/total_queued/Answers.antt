use Rattle.std.proofs.Common.{◌≡◌, ◌∙◌, arith, subst, length}
use Rattle.gate_queue.specs.Taker.{TakerState, total_queued}
use Rattle.gate_queue.specs.inner.Passes.{total_counted}
use Rattle.gate_queue.proofs.Passes.{total_is}
use Rattle.gate_queue.proofs.taker.Taker.total_queued.Goals as goal

pub returns : goal.returns
returns c =
    let m = c.self.invariant.2 in
    let v = c.as_slice.ensures.value in
    subst (λ (t : TakerState). c.total.result ≡ total_queued t.ended t.gate.limits.clients) c.self.view_is (c.total.ensures ∙ (λ i. total_counted (v i) (length (v i))) ∙ (λ i. total_counted c.self.inside.counts.items (m.long i)) ∙ total_is _ _ m _ (omega arith))
