use Rattle.std.proofs.Common.{◌≡◌, ◌*◌, ◌≤◌}
use Rattle.httpdate.specs.Calendar.{days_of_years}
use Rattle.desk_forms.proofs.moments.days_of_years.Given as goal

abbrev pub invariant-loop-year : goal.invariant-loop-year
invariant-loop-year l = record {
  is : l.days ≡ days_of_years l.year;
  few : l.days ≤ 366 * l.year;
  within : l.year ≤ l.years;
}
