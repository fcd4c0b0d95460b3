-- A moment that a form writes (`moment_of`): a date and a time as a browser sends them, `YYYY-MM-DDTHH:MM` (HTML, 2.3.5.5: a
-- local date and time string), on the Gregorian calendar from 1970. Own rule: they are of UTC.
use Rattle.std.specs.Prelude.{ℕ, ◌+◌, ◌*◌, Bool, ◌&&◌, ◌==◌, nat_le, nat_lt, if◌then◌else◌, List, length, take, drop, get_or, Option, Some, None, option_map, option_and_then, unwrap_or}
use Rattle.std.specs.Fmt.{decimal}
use Rattle.gate_grammar.specs.Numbers.{number_of}
use Rattle.httpdate.specs.Calendar.{days_in_month, days_from_civil}
use Rattle.operator_commands.specs.Times.{fitting}

infixl 10 ◌>>=◌
-- what follows from a value that is there
abbrev pub ◌>>=◌ : {A B : Type 0} → Option A → (A → Option B) → Option B
o >>= f = option_and_then f o

abbrev pub is_between : ℕ → ℕ → ℕ → Bool
is_between least most number = nat_le least number && nat_le number most

-- whether the calendar has this day
abbrev pub is_date : ℕ → ℕ → ℕ → Bool
is_date year month day =
    is_between 1970 9999 year && is_between 1 12 month && is_between 1 (days_in_month year month) day

-- the day, in days since 1 January 1970
abbrev pub day_at : ℕ → ℕ → ℕ → Option ℕ
day_at year month day = if is_date year month day then Some (days_from_civil year month day) else None

-- the day that a text as `2026-11-23` is, with minus signs (45)
abbrev pub day_of : List ℕ → Option ℕ
day_of text =
    if length text == 10 && get_or text 4 0 == 45 && get_or text 7 0 == 45 then (do
      year ← number_of (take 4 text)
      month ← number_of (take 2 (drop 5 text))
      day ← number_of (drop 8 text)
      day_at year month day)
    else None

-- the second of the day
abbrev pub second_at : ℕ → ℕ → Option ℕ
second_at hour minute = if nat_lt hour 24 && nat_lt minute 60 then Some (hour * 3600 + minute * 60) else None

-- the second of the day that a text as `20:15` is, with a colon (58)
abbrev pub second_of : List ℕ → Option ℕ
second_of text =
    if length text == 5 && get_or text 2 0 == 58 then (do
      hour ← number_of (take 2 text)
      minute ← number_of (drop 3 text)
      second_at hour minute)
    else None

-- the moment that a text as `2026-11-23T20:15` is, with a T (84), in seconds since 1970
abbrev pub moment_of : List ℕ → Option ℕ
moment_of text =
    if length text == 16 && get_or text 10 0 == 84 then (do
      day ← day_of (take 10 text)
      second ← second_of (drop 11 text)
      fitting (day * 86400 + second))
    else None

-- a time of a form as a request has it: a moment by its number, and another text as it is
abbrev pub time_of : List ℕ → List ℕ
time_of text = unwrap_or (option_map decimal (moment_of text)) text
