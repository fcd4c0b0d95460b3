use Rattle.gate_applier.proofs.BookSteps.{follow-add}
use Rattle.gate_applier.proofs.books.Books.add_comment.Goals as goal

pub returns-clause-follow : goal.returns-clause-follow
returns-clause-follow c = λ moment stands events follow.
    follow-add events c.args.object c.args.source c.args.persistent c.args.log_index moment c.args.self.now c.add.new.self c.in-Ok.ensures.comments c.in-Ok.ensures.next_id stands follow
