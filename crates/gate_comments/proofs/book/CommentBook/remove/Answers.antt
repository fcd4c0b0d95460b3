use Rattle.std.proofs.Common.{sym, ◌∙◌}
use Rattle.gate_comments.proofs.CountSteps.{none_left}
use Rattle.gate_comments.proofs.KeepingSteps.{kept-without}
use Rattle.gate_comments.proofs.book.CommentBook.remove.Goals as goal

pub invariant_of-self : goal.invariant_of-self
invariant_of-self c =
    rw c.retain_others.ensures.capacity
    (kept-without c.args.event c.self.inside.comments.items _ c.self.inside.counts.places.items _ c.self.inside.counts.downtimes _ c.self.inside.next_id _
    c.self.invariant c.retain_others.ensures.comments c.remove_all.ensures.len (rw c.deref.ensures.value at c.remove_all.ensures.counted))

pub returns-else-may_remove-clause-comments : goal.returns-else-may_remove-clause-comments
returns-else-may_remove-clause-comments c =
    rw (← c.self.view_is)
    (sym (none_left c.args.event c.self.inside.comments.items
    (sym (c.may_remove.ensures c.self.inside.comments.items c.self.invariant.counted) ∙ c.if-may_remove.false)))
