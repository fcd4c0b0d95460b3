use Rattle.gate_applier.proofs.BookSteps.{follow-transition}
use Rattle.gate_applier.proofs.books.Books.take_transition.Goals as goal

pub returns-then-transition-clause-follow : goal.returns-then-transition-clause-follow
returns-then-transition-clause-follow c = λ moment events follow.
    rw c.if-transition.true
    (follow-transition events moment c.args.object.place c.args.self.now c.transition.new.self c.transition.ensures.value (c.transition.ensures.stands 1 events.downtimes moment follow.downtime_stands) follow)
