use Rattle.std.proofs.Common.{refl, sym, ◌∙◌, arith}
use Rattle.gate_comments.proofs.CountSteps.{none_ended}
use Rattle.gate_comments.proofs.KeepingSteps.{kept-live}
use Rattle.gate_comments.proofs.StandingSteps.{stands-ended}
use Rattle.gate_comments.proofs.book.CommentBook.drop_downtimes.Goals as goal

pub invariant_of-self : goal.invariant_of-self
invariant_of-self g c =
    let live = c.requires.answered.0 in
    let answered = c.requires.answered.1 in
    rw c.retain_live.ensures.capacity
    (kept-live live c.self.inside.comments.items _ c.self.inside.counts.places.items _ c.self.inside.counts.downtimes _ c.self.inside.next_id _
    c.self.invariant (c.retain_live.ensures.comments live answered) c.remove_ended.ensures.len
    (rw c.deref.ensures.value at c.remove_ended.ensures.counted live answered))

pub returns-clause-comments : goal.returns-clause-comments
returns-clause-comments g c = λ live answered.
    rw (← c.self.view_is)
    (sym (none_ended live c.self.inside.comments.items (sym c.self.invariant.counted.downtimes_are ∙ omega (arith, c.if-self-gt0.false))))

pub returns-then-self-gt0-clause-stands : goal.returns-then-self-gt0-clause-stands
returns-then-self-gt0-clause-stands g c = λ live answered ids ended.
    (stands-ended live c.args.self.now _ (rw (← c.self.view_is) (c.retain_live.ensures.comments live answered)) (rw (← c.self.view_is) refl) ids ended)

pub returns-clause-stands : goal.returns-clause-stands
returns-clause-stands g c = λ live answered ids ended.
    stands-ended live c.args.self.now c.args.self.now
    (rw (← c.self.view_is)
    (sym (none_ended live c.self.inside.comments.items (sym c.self.invariant.counted.downtimes_are ∙ omega (arith, c.if-self-gt0.false)))))
    refl ids ended
