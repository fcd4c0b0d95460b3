use Rattle.std.proofs.Common.{sym, arith}
use Rattle.status_view.proofs.CalendarSteps.{IsCounted, month_found, day_found}
use Rattle.status_view.proofs.calendar.month_of.Goals as goal
use Rattle.status_view.proofs.calendar.month_of.Goals.{then-loop-months-test+else-rest-length, else-loop-months-test}

counts : (c : goal.Left-loop-months) → IsCounted c.args.year c.args.over c.loop-months.months c.loop-months.rest
counts c = record {
  is = c.loop-months.invariant.is;
  short = λ early. elim c.loop-months-test.branch [
    | then-loop-months-test+else-rest-length w ↦ rw (← c.loop-months.invariant.length) w.if-rest-length.false
    | else-loop-months-test w ↦ absurd (omega arith)
  ];
  few = c.loop-months.invariant.few;
}

pub returns-clause-month : goal.returns-clause-month
returns-clause-month c = sym (month_found _ _ _ _ _ c.requires.of_year c.requires.of_day (counts c))

pub returns-clause-day : goal.returns-clause-day
returns-clause-day c = sym (day_found _ _ _ _ _ c.requires.of_year c.requires.of_day (counts c))
