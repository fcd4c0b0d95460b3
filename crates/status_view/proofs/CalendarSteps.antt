-- Counting days off, year by year and month by month.
use Rattle.std.proofs.Common.{◌≡◌, ℕ, zero, suc, ◌+◌, ◌-◌, ◌<◌, ◌≤◌, min, refl, sym, ap, arith, add-one, count_by, cond}
use Rattle.std.specs.Prelude.{nat_le}
use Rattle.std.specs.List.{range_with_len}
use Rattle.std.proofs.lemmas.List.Sums.{sum_by-cons}
use Rattle.std.proofs.lemmas.Bool.Decides.{nat_tests}
use Rattle.httpdate.specs.Calendar.{days_in_year, days_in_month, days_of_years, days_of_months}
use Rattle.status_view.specs.Calendar.{years_over, year_of, days_over, months_over, month_of, day_of}

-- of the numbers from `first` on, those up to `last` pass
counted : (f : ℕ → ℕ) (day last all first size : ℕ)
    → ((i : ℕ) → i ≤ last → f i ≤ day)
    → ((i : ℕ) → last < i → i ≤ all → day < f i)
    → first + size ≡ all + 1
    → count_by (λ i. nat_le (f i) day) (range_with_len first size) ≡ min (last + 1 - first) size
counted f day last all first zero below above whole = omega arith
counted f day last all first (suc size) below above whole =
    let after = counted f day last all (first + 1) size below above (omega arith) in
    let one = sum_by-cons (λ i. cond (nat_le (f i) day) 1 0) first (range_with_len (first + 1) size) in
    let passes : first ≤ last → f first ≤ day = below first in
    let fails : last < first → first ≤ all → day < f first = above first in
    grind (arith, nat_tests)

-- ---- years

pub no_years : days_of_years 0 ≡ 0
unfolding days_of_years
no_years = refl

pub year_more : (years : ℕ) → days_of_years (years + 1) ≡ days_of_years years + days_in_year (1970 + years)
unfolding days_of_years
year_more years = rw add-one refl

pub ruleset years = (no_years, year_more)

years_rise : (one more other : ℕ) → one + more ≡ other → days_of_years one ≤ days_of_years other
unfolding days_of_years
years_rise one zero other is = let same : one ≡ other = omega arith in rw same (omega arith)
years_rise one (suc more) zero is = absurd (omega arith)
years_rise one (suc more) (suc other) is = omega (arith, years_rise one more other (omega arith))

years_counted : (most day years rest : ℕ)
    → days_of_years years + rest ≡ day
    → rest < days_in_year (1970 + years)
    → years ≤ most
    → years_over most day ≡ years
unfolding years_over
years_counted most day years rest is short few =
    let next = year_more years in
    let all = counted days_of_years day years most 1 most
    (λ i low. omega (arith, years_rise i (years - i) years (omega arith)))
    (λ i high top. omega (arith, years_rise (years + 1) (i - (years + 1)) i (omega arith)))
    (omega arith) in
    omega arith

pub year_found : (day years rest : ℕ)
    → days_of_years years + rest ≡ day
    → rest < days_in_year (1970 + years)
    → years ≤ 200
    → year_of day ≡ 1970 + years
unfolding year_of
year_found day years rest is short few = ap (λ over. 1970 + over) (years_counted 200 day years rest is short few)

pub days_found : (day years rest : ℕ)
    → days_of_years years + rest ≡ day
    → rest < days_in_year (1970 + years)
    → years ≤ 200
    → days_over day ≡ rest
unfolding days_over
days_found day years rest is short few =
    let back : 1970 + years - 1970 ≡ years = omega arith in
    rw (year_found day years rest is short few, back) (omega arith)

-- ---- months

pub no_months : (year : ℕ) → days_of_months year 0 ≡ 0
unfolding days_of_months
no_months year = refl

pub month_more : (year months : ℕ)
    → days_of_months year (months + 1) ≡ days_of_months year months + days_in_month year (months + 1)
unfolding days_of_months
month_more year months = rw add-one refl

pub ruleset months = (no_months, month_more)

months_rise : (year one more other : ℕ) → one + more ≡ other → days_of_months year one ≤ days_of_months year other
unfolding days_of_months
months_rise year one zero other is = let same : one ≡ other = omega arith in rw same (omega arith)
months_rise year one (suc more) zero is = absurd (omega arith)
months_rise year one (suc more) (suc other) is = omega (arith, months_rise year one more other (omega arith))

-- these are the months and days of a day of the year, of which so many days are over
pub record IsCounted (year over months rest : ℕ) : Type 0 where
  pub is : days_of_months year months + rest ≡ over
  pub short : months < 11 → rest < days_in_month year (months + 1)
  pub few : months ≤ 11

months_counted : (most year over months rest : ℕ)
    → days_of_months year months + rest ≡ over
    → (months < most → rest < days_in_month year (months + 1))
    → months ≤ most
    → months_over year most over ≡ months
unfolding months_over
months_counted most year over months rest is short few =
    let next = month_more year months in
    let all = counted (days_of_months year) over months most 1 most
    (λ i low. omega (arith, months_rise year i (months - i) months (omega arith)))
    (λ i high top.
    omega (arith, short (omega arith), months_rise year (months + 1) (i - (months + 1)) i (omega arith)))
    (omega arith) in
    omega arith

pub month_found : (day year over months rest : ℕ)
    → year ≡ year_of day
    → over ≡ days_over day
    → IsCounted year over months rest
    → month_of day ≡ months + 1
unfolding month_of
month_found day year over months rest of_year of_over counts =
    let found = months_counted 11 year over months rest counts.is counts.short counts.few in
    rw (sym of_year, sym of_over, found) (omega arith)

pub day_found : (day year over months rest : ℕ)
    → year ≡ year_of day
    → over ≡ days_over day
    → IsCounted year over months rest
    → day_of day ≡ rest + 1
unfolding day_of
day_found day year over months rest of_year of_over counts =
    let month = month_found day year over months rest of_year of_over counts in
    let back : months + 1 - 1 ≡ months = omega arith in
    let days = counts.is in
    rw (month, sym of_year, sym of_over, back) (omega arith)
