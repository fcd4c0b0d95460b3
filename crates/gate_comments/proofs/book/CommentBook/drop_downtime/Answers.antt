use Rattle.gate_comments.proofs.StandingSteps.{stands-gone}
use Rattle.gate_comments.proofs.book.CommentBook.drop_downtime.Goals as goal

pub returns-clause-stands : goal.returns-clause-stands
returns-clause-stands c = stands-gone c.args.self.now c.remove.new.self c.args.id c.remove.ensures.comments c.remove.ensures.next_id
