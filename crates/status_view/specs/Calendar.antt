-- The date of a day: `year_of`, `month_of` and `day_of`. A day is a number of days since 1 January 1970. The lengths of
-- years and months are those of the Gregorian calendar, as httpdate has them.
use Rattle.std.specs.Prelude.{ℕ, ◌+◌, ◌-◌, nat_le, count_by}
use Rattle.std.specs.List.{range_with_len}
use Rattle.httpdate.specs.Calendar.{days_of_years, days_of_months}

-- how many of the first years from 1970, up to this many, are over on the day
unfoldable pub years_over : ℕ → ℕ → ℕ
years_over most day = count_by (λ years. nat_le (days_of_years years) day) (range_with_len 1 most)

-- the year of a day, up to the year 2169
unfoldable pub year_of : ℕ → ℕ
year_of day = 1970 + years_over 200 day

-- how many days of that year are over
unfoldable pub days_over : ℕ → ℕ
days_over day = day - days_of_years (year_of day - 1970)

-- how many of the first months of a year, up to this many, are over when these days of it are
unfoldable pub months_over : ℕ → ℕ → ℕ → ℕ
months_over year most days = count_by (λ months. nat_le (days_of_months year months) days) (range_with_len 1 most)

-- the month of a day, from 1
unfoldable pub month_of : ℕ → ℕ
month_of day = 1 + months_over (year_of day) 11 (days_over day)

-- the day of the month, from 1
unfoldable pub day_of : ℕ → ℕ
day_of day = 1 + (days_over day - days_of_months (year_of day) (month_of day - 1))
