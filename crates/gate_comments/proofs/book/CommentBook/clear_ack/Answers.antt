use Rattle.gate_comments.proofs.StandingSteps.{stands-clear}
use Rattle.gate_comments.proofs.book.CommentBook.clear_ack.Goals as goal

pub returns-clause-stands : goal.returns-clause-stands
returns-clause-stands c = stands-clear c.args.self.now c.remove.new.self c.args.object.place c.remove.ensures.comments c.remove.ensures.next_id
