-- Numbers as they stand in a command line, in a replay script and on a page: decimal digits.
-- Own rules: how many digits a number may have, and its range.
use Rattle.std.specs.Prelude.{ℕ, ◌^◌, ℤ, pos, neg_ℤ, List, [], ◌∷◌, length, Bool, ◌&&◌, Option, Some, None, nat_lt, ◌==◌, if◌then◌else◌}
use Rattle.std.specs.Option.{option_map}
use Rattle.std.specs.Str.{all_ascii_digits}
use Rattle.std.specs.Str.Parse.{digits_value}

-- one to ten decimal digits
abbrev pub is_number : List ℕ → Bool
is_number text = nat_lt 0 (length text) && nat_lt (length text) 11 && all_ascii_digits text

-- the number, below a limit, that a text of digits spells
unfoldable pub number_below : ℕ → List ℕ → Option ℕ
number_below limit text =
    if is_number text && nat_lt (digits_value 10 text) limit then Some (digits_value 10 text) else None

-- the unsigned number, at most 4294967295, that a text spells; it may have leading zeros
abbrev pub number_of : List ℕ → Option ℕ
number_of text = number_below (2 ^ 32) text

-- the code, from -32768 to 32767, that a text spells: digits, or digits after a minus sign
abbrev pub code_of : List ℕ → Option ℤ
code_of [] = None
code_of (first ∷ rest) =
    if first == 45 then option_map (λ n. neg_ℤ (pos n)) (number_below 32769 rest)
    else option_map (λ n. pos n) (number_below 32768 (first ∷ rest))
