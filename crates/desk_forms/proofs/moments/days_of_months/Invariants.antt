use Rattle.std.proofs.Common.{◌≡◌, ◌*◌, ◌≤◌}
use Rattle.httpdate.specs.Calendar.{days_of_months}
use Rattle.desk_forms.proofs.moments.days_of_months.Given as goal

abbrev pub invariant-loop-month : goal.invariant-loop-month
invariant-loop-month l = record {
  is : l.days ≡ days_of_months l.year l.month;
  few : l.days ≤ 31 * l.month;
  within : l.month ≤ l.months;
}
