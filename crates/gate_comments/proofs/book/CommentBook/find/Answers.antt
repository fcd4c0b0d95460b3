use Rattle.gate_comments.proofs.KeepingSteps.{ascending}
use Rattle.gate_comments.proofs.book.CommentBook.find.Goals as goal

pub find_by_id-requires : goal.find_by_id-requires
find_by_id-requires c = rw c.deref.ensures.value (ascending 1 c.self.inside.next_id c.self.inside.comments.items c.self.invariant.ids)
