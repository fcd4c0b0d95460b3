use Rattle.gate_comments.proofs.StandingSteps.{stands-delete_all}
use Rattle.gate_comments.proofs.book.CommentBook.delete_all.Goals as goal

pub returns-clause-stands : goal.returns-clause-stands
returns-clause-stands c = stands-delete_all c.args.self.now c.remove.new.self c.args.object.place c.remove.ensures.comments c.remove.ensures.next_id
