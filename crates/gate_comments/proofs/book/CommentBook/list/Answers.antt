use Rattle.gate_comments.proofs.KeepingSteps.{ascending}
use Rattle.gate_comments.proofs.book.CommentBook.list.Goals as goal

pub returns-clause-ascending : goal.returns-clause-ascending
returns-clause-ascending c = rw c.as_slice.ensures.value (ascending 1 c.self.inside.next_id c.self.inside.comments.items c.self.invariant.ids)
