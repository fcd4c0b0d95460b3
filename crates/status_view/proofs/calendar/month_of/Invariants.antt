use Rattle.std.proofs.Common.{◌≡◌, ◌+◌, ◌≤◌}
use Rattle.httpdate.specs.Calendar.{days_in_month, days_of_months}
use Rattle.status_view.proofs.calendar.month_of.Given as goal

abbrev pub invariant-loop-months : goal.invariant-loop-months
invariant-loop-months l = record {
  is : days_of_months l.year l.months + l.rest ≡ l.over;
  length : l.length ≡ days_in_month l.year (l.months + 1);
  few : l.months ≤ 11;
  fewer : l.rest ≤ l.over;
}

abbrev pub decreases-loop-months : goal.decreases-loop-months
decreases-loop-months l = l.rest
