use Rattle.std.proofs.Common.{◌∙◌}
use Rattle.gate_model.specs.Meaning.{history_of}
use Rattle.gate_applier.specs.inner.Books.{events_of}
use Rattle.gate_applier.proofs.BookSteps.{comments-settled}
use Rattle.gate_applier.proofs.applier.Applier.comments.Goals as goal

pub returns : goal.returns
returns c =
    rw (← c.self.view_is)
    (c.list.ensures.list ∙ comments-settled (events_of c.self.inside.table (history_of c.self.inside.table c.self.inside.records.items)) c.self.inside.moment c.self.inside.books c.self.invariant.books_stand)
