use Rattle.gate_model.specs.Record.{later}
use Rattle.gate_applier.proofs.BookSteps.{follow-advance}
use Rattle.gate_applier.proofs.books.Books.advance.Goals as goal

pub returns-clause-stand : goal.returns-clause-stand
returns-clause-stand c = λ events before stand.
    c.settle.ensures.stand events (later before c.args.moment)
    (follow-advance events before c.args.moment c.args.self.now c.advance.new.self c.advance.ensures.value (c.advance.ensures.stands 1 events.downtimes before stand.follow.downtime_stands) stand.follow)
