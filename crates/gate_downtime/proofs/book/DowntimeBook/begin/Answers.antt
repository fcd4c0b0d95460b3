use Rattle.std.proofs.Common.{◌∙◌, sym}
use Rattle.gate_downtime.proofs.SpreadSteps.{spread-end}
use Rattle.gate_downtime.proofs.LiveSteps.{begin-row}
use Rattle.gate_downtime.proofs.BookSteps.{begin-stands}
use Rattle.gate_downtime.proofs.book.DowntimeBook.begin.Goals as goal

pub returns-in-None-clause-value : goal.returns-in-None-clause-value
returns-in-None-clause-value c =
    rw (← c.self.view_is) (sym c.in-None.is ∙ c.find_begin.ensures ∙ begin-row _ _ _ (spread-end _ _ _ c.self.invariant.spreading))

pub returns-in-None-clause-stands : goal.returns-in-None-clause-stands
returns-in-None-clause-stands c = begin-stands c.args.self.now c.args.id _ (returns-in-None-clause-value c)

pub returns-in-Some-clause-value : goal.returns-in-Some-clause-value
returns-in-Some-clause-value c =
    rw (← c.self.view_is) (sym c.in-Some.is ∙ c.find_begin.ensures ∙ begin-row _ _ _ (spread-end _ _ _ c.self.invariant.spreading))

pub returns-in-Some-clause-stands : goal.returns-in-Some-clause-stands
returns-in-Some-clause-stands c = begin-stands c.args.self.now c.args.id _ (returns-in-Some-clause-value c)
