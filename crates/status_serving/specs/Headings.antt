-- The seconds after which a browser asks again, as a text writes them: `WritesRefresh`. Own rule.
use Rattle.std.specs.Prelude.{◌≡◌, ℕ, ◌≤◌, ◌⊎◌, List}
use Rattle.std.specs.Str.Parse.{IsNumeral, digits_value, without_leading_plus}

-- the seconds after which a browser asks again: 0 (never), or 2 to 3600
abbrev pub IsRefresh : ℕ → Type 0
IsRefresh seconds = (seconds ≡ 0) ⊎ ((2 ≤ seconds) × (seconds ≤ 3600))

-- a text writes these seconds
abbrev pub WritesRefresh : List ℕ → ℕ → Type 0
WritesRefresh text seconds =
    IsNumeral 10 (without_leading_plus text)
    × (digits_value 10 (without_leading_plus text) ≡ seconds)
    × IsRefresh seconds
