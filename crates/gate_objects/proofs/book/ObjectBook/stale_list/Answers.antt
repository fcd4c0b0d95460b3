use Rattle.std.proofs.Common.{◌∙◌, ap}
use Rattle.gate_objects.specs.Book.{stale_objects}
use Rattle.gate_objects.proofs.StaleSteps.{stale-standing}
use Rattle.gate_objects.proofs.book.ObjectBook.stale_list.Goals as goal

pub returns-clause-stale : goal.returns-clause-stale
returns-clause-stale c =
    rw (← c.self.view_is)
    (λ history stands. c.new.ensures ∙ ap (stale_objects c.self.inside.opening c.args.moment) c.deref.ensures.value
    ∙ stale-standing c.self.inside.opening c.self.inside.statuses.items history c.args.moment c.self.invariant stands)
