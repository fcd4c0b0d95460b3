-- Years and months, one more.
use Rattle.std.proofs.Common.{◌≡◌, ℕ, ◌+◌, refl, add-one}
use Rattle.httpdate.specs.Calendar.{days_in_year, days_in_month, days_of_years, days_of_months}

pub no_years : days_of_years 0 ≡ 0
unfolding days_of_years
no_years = refl

pub year_more : (years : ℕ) → days_of_years (years + 1) ≡ days_of_years years + days_in_year (1970 + years)
unfolding days_of_years
year_more years = rw add-one refl

pub ruleset years = (no_years, year_more)

pub no_months : (year : ℕ) → days_of_months year 0 ≡ 0
unfolding days_of_months
no_months year = refl

pub month_more : (year months : ℕ)
    → days_of_months year (months + 1) ≡ days_of_months year months + days_in_month year (months + 1)
unfolding days_of_months
month_more year months = rw add-one refl

pub ruleset months = (no_months, month_more)
