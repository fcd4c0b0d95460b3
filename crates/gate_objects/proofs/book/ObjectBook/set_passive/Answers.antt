use Rattle.std.proofs.Common.{refl}
use Rattle.gate_objects.specs.ObjectStatus.{switched}
use Rattle.gate_objects.proofs.StatusSteps.{written_book}
use Rattle.gate_objects.proofs.StandingSteps.{stands-passive}
use Rattle.gate_objects.proofs.book.ObjectBook.set_passive.Goals as goal

pub returns-clause-stands : goal.returns-clause-stands
returns-clause-stands c =
    rw (← c.self.view_is)
    (stands-passive c.self.inside.opening c.self.inside.statuses.items c.args.object.place c.index-status.result.now _
    c.args.on (rw (← c.self.view_is) at c.requires) c.index-status.ensures refl)

pub returns-clause-book : goal.returns-clause-book
returns-clause-book c =
    rw (← c.self.view_is)
    (written_book (switched c.args.on)
    c.self.inside.opening c.self.inside.statuses.items c.args.object.place c.index-status.result.now _
    (rw (← c.self.view_is) at c.requires) c.index-status.ensures refl)
