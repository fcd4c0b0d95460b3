use Rattle.std.proofs.Common.{refl, sym, ◌∙◌, ap}
use Rattle.gate_model.specs.State.{is_problem}
use Rattle.gate_model.specs.Status.{state_left_by}
use Rattle.gate_objects.specs.ObjectStatus.{acknowledged_by}
use Rattle.gate_objects.specs.Book.{last_of_status}
use Rattle.gate_objects.proofs.StatusSteps.{written_book, status_at}
use Rattle.gate_objects.proofs.StandingSteps.{stands-acknowledge, last_of_read}
use Rattle.gate_objects.proofs.book.ObjectBook.acknowledge.Goals as goal

pub returns-clause-stands : goal.returns-clause-stands
returns-clause-stands c =
    rw (← c.self.view_is)
    (stands-acknowledge c.self.inside.opening c.self.inside.statuses.items c.args.object.place c.index-status.result.now _
    c.args.sticky c.args.log_index (rw (← c.self.view_is) at c.requires) c.index-status.ensures refl)

pub returns-clause-book : goal.returns-clause-book
returns-clause-book c =
    rw (← c.self.view_is)
    (written_book (acknowledged_by (record { sticky = c.args.sticky; log_index = c.args.log_index }))
    c.self.inside.opening c.self.inside.statuses.items c.args.object.place c.index-status.result.now _
    (rw (← c.self.view_is) at c.requires) c.index-status.ensures refl)

pub returns-clause-accepted : goal.returns-clause-accepted
returns-clause-accepted c =
    rw (← c.self.view_is)
    (λ history stands. sym c.if-not-is_problem.false ∙ c.is_problem.ensures
    ∙ ap is_problem (c.state.ensures ∙ ap state_left_by
    (last_of_read c.self.inside.opening c.self.inside.statuses.items c.args.object.place c.index-status.result.now history
    (rw (← c.self.view_is) at c.requires) c.index-status.ensures stands)))

pub returns-clause-ok : goal.returns-clause-ok
returns-clause-ok c =
    rw (← c.self.view_is)
    (sym c.if-not-is_problem.false ∙ c.is_problem.ensures
    ∙ ap is_problem (c.state.ensures ∙ ap state_left_by
    (sym (ap last_of_status (status_at c.self.inside.statuses.items c.args.object.place c.index-status.result.now (rw (← c.self.view_is) at c.requires) c.index-status.ensures)))))

pub returns-then-not-is_problem-clause-accepted : goal.returns-then-not-is_problem-clause-accepted
returns-then-not-is_problem-clause-accepted c =
    rw (← c.self.view_is)
    (λ history stands. sym c.if-not-is_problem.true ∙ c.is_problem.ensures
    ∙ ap is_problem (c.state.ensures ∙ ap state_left_by
    (last_of_read c.self.inside.opening c.self.inside.statuses.items c.args.object.place c.index-status.result.now history
    (rw (← c.self.view_is) at c.requires) c.index-status.ensures stands)))

pub returns-then-not-is_problem-clause-ok : goal.returns-then-not-is_problem-clause-ok
returns-then-not-is_problem-clause-ok c =
    rw (← c.self.view_is)
    (sym c.if-not-is_problem.true ∙ c.is_problem.ensures
    ∙ ap is_problem (c.state.ensures ∙ ap state_left_by
    (sym (ap last_of_status (status_at c.self.inside.statuses.items c.args.object.place c.index-status.result.now (rw (← c.self.view_is) at c.requires) c.index-status.ensures)))))
