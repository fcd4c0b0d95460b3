-- Spans and moments on a page. Own rules.
use Rattle.std.specs.Prelude.{ℕ, ◌/◌, ◌%◌, nat_lt, if◌then◌else◌, List, [], ◌∷◌, ◌++◌, codes}
use Rattle.status_view.specs.Calendar.{year_of, month_of, day_of}
use Rattle.status_view.specs.Layout.{NodeView, Markup, Number}

-- a span by its greatest unit, as `5 min`: seconds below 2 minutes, minutes below 2 hours, hours below 2 days
unfoldable pub span_nodes : ℕ → List NodeView
span_nodes seconds =
    if nat_lt seconds 120 then Number seconds ∷ Markup (codes " s") ∷ []
    else if nat_lt seconds 7200 then Number (seconds / 60) ∷ Markup (codes " min") ∷ []
    else if nat_lt seconds 172800 then Number (seconds / 3600) ∷ Markup (codes " h") ∷ []
    else Number (seconds / 86400) ∷ Markup (codes " d") ∷ []

-- a number below 100 by two digits
unfoldable pub two_digits : ℕ → List NodeView
two_digits number = if nat_lt number 10 then Markup (codes "0") ∷ Number number ∷ [] else Number number ∷ []

-- a day, as `2026-11-23`
unfoldable pub date_nodes : ℕ → List NodeView
date_nodes day =
    (Number (year_of day) ∷ Markup (codes "-") ∷ [])
    ++ two_digits (month_of day)
    ++ (Markup (codes "-") ∷ [])
    ++ two_digits (day_of day)

-- a second of a day in UTC, as `20:15:00Z`
unfoldable pub clock_nodes : ℕ → List NodeView
clock_nodes second =
    two_digits (second / 3600)
    ++ (Markup (codes ":") ∷ [])
    ++ two_digits (second / 60 % 60)
    ++ (Markup (codes ":") ∷ [])
    ++ two_digits (second % 60)
    ++ (Markup (codes "Z") ∷ [])

-- a moment in UTC, as `2026-11-23T20:15:00Z` (RFC 3339), with this between its date and its time
unfoldable pub instant_nodes : List ℕ → ℕ → List NodeView
instant_nodes between moment =
    date_nodes (moment / 86400) ++ (Markup between ∷ []) ++ clock_nodes (moment % 86400)

-- the same as `2026-11-23 20:15:00Z`
abbrev pub moment_nodes : ℕ → List NodeView
moment_nodes moment = instant_nodes (codes " ") moment

-- an element of it, which programs can read (HTML, 4.5.14)
unfoldable pub time_nodes : ℕ → List NodeView
time_nodes moment =
    (Markup (codes "<time datetime=\"") ∷ [])
    ++ moment_nodes moment
    ++ (Markup (codes "\">") ∷ [])
    ++ moment_nodes moment
    ++ (Markup (codes "</time>") ∷ [])
