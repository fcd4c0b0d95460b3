use Rattle.std.proofs.Common.{refl, sym, ◌∙◌, ap, not, is_some}
use Rattle.gate_objects.specs.ObjectStatus.{unacknowledged}
use Rattle.gate_objects.specs.Book.{acknowledgement_of_status}
use Rattle.gate_objects.proofs.StatusSteps.{written_book, status_at}
use Rattle.gate_objects.proofs.StandingSteps.{stands-remove, acknowledgement_of_read}
use Rattle.gate_objects.proofs.book.ObjectBook.remove_ack.Goals as goal

pub returns-clause-stands : goal.returns-clause-stands
returns-clause-stands c =
    rw (← c.self.view_is)
    (stands-remove c.self.inside.opening c.self.inside.statuses.items c.args.object.place c.index.result.now _
    (rw (← c.self.view_is) at c.requires) c.index.ensures refl)

pub returns-clause-book : goal.returns-clause-book
returns-clause-book c =
    rw (← c.self.view_is)
    (written_book unacknowledged
    c.self.inside.opening c.self.inside.statuses.items c.args.object.place c.index.result.now _
    (rw (← c.self.view_is) at c.requires) c.index.ensures refl)

pub returns-clause-accepted : goal.returns-clause-accepted
returns-clause-accepted c =
    rw (← c.self.view_is)
    (λ history stands. sym (c.is_none.ensures ∙ ap not c.if-is_none.false)
    ∙ ap is_some
    (acknowledgement_of_read c.self.inside.opening c.self.inside.statuses.items c.args.object.place c.index.result.now history
    (rw (← c.self.view_is) at c.requires) c.index.ensures stands))

pub returns-clause-ok : goal.returns-clause-ok
returns-clause-ok c =
    rw (← c.self.view_is)
    (sym (c.is_none.ensures ∙ ap not c.if-is_none.false)
    ∙ ap is_some
    (sym (ap acknowledgement_of_status (status_at c.self.inside.statuses.items c.args.object.place c.index.result.now (rw (← c.self.view_is) at c.requires) c.index.ensures))))

pub returns-then-is_none-clause-accepted : goal.returns-then-is_none-clause-accepted
returns-then-is_none-clause-accepted c =
    rw (← c.self.view_is)
    (λ history stands. sym (c.is_none.ensures ∙ ap not c.if-is_none.true)
    ∙ ap is_some
    (acknowledgement_of_read c.self.inside.opening c.self.inside.statuses.items c.args.object.place c.index.result.now history
    (rw (← c.self.view_is) at c.requires) c.index.ensures stands))

pub returns-then-is_none-clause-ok : goal.returns-then-is_none-clause-ok
returns-then-is_none-clause-ok c =
    rw (← c.self.view_is)
    (sym (c.is_none.ensures ∙ ap not c.if-is_none.true)
    ∙ ap is_some
    (sym (ap acknowledgement_of_status (status_at c.self.inside.statuses.items c.args.object.place c.index.result.now (rw (← c.self.view_is) at c.requires) c.index.ensures))))
