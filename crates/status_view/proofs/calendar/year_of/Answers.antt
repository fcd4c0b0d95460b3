use Rattle.std.proofs.Common.{◌+◌, ◌<◌, sym, arith}
use Rattle.httpdate.specs.Calendar.{days_in_year}
use Rattle.status_view.proofs.CalendarSteps.{year_found, days_found}
use Rattle.status_view.proofs.calendar.year_of.Goals as goal

short : (c : goal.After-loop-length) → c.loop-length.rest < days_in_year (1970 + c.loop-length.years)
short c = rw (← c.loop-length.invariant.length) c.loop-length-test.false

pub returns-clause-year : goal.returns-clause-year
returns-clause-year c = sym (year_found c.args.day _ _ c.loop-length.invariant.is (short c) (omega arith))

pub returns-clause-over : goal.returns-clause-over
returns-clause-over c = sym (days_found c.args.day _ _ c.loop-length.invariant.is (short c) (omega arith))
