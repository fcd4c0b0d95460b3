use Rattle.std.proofs.Common.{◌∙◌}
use Rattle.gate_downtime.proofs.SpreadSteps.{spread-end}
use Rattle.gate_downtime.proofs.LiveSteps.{live-row}
use Rattle.gate_downtime.proofs.BookSteps.{live-stands}
use Rattle.gate_downtime.proofs.book.DowntimeBook.is_live.Goals as goal

pub returns-clause-value : goal.returns-clause-value
returns-clause-value c =
    rw (← c.self.view_is) (c.is_some.ensures ∙ c.find_live.ensures.live ∙ live-row _ _ _ _ (spread-end _ _ _ c.self.invariant.spreading))

pub returns-clause-stands : goal.returns-clause-stands
returns-clause-stands c = live-stands c.args.self.now c.args.id _ (returns-clause-value c)
