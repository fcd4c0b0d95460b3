use Rattle.std.proofs.Common.{◌≡◌, ◌+◌, ◌*◌, ◌≤◌}
use Rattle.httpdate.specs.Calendar.{days_in_year, days_of_years}
use Rattle.status_view.proofs.calendar.year_of.Given as goal

abbrev pub invariant-loop-length : goal.invariant-loop-length
invariant-loop-length l = record {
  is : days_of_years l.years + l.rest ≡ l.day;
  length : l.length ≡ days_in_year (1970 + l.years);
  few : 365 * l.years + l.rest ≤ l.day;
}

abbrev pub decreases-loop-length : goal.decreases-loop-length
decreases-loop-length l = l.rest
