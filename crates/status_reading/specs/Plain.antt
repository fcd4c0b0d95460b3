-- What a field of a status page stands for: `plain_bytes`. Own rule: the page's escapes are those of gate_model's
-- Escaping, so the field that shows a text stands for that text. A backslash that begins no escape stands for itself.
use Rattle.std.specs.Prelude.{ℕ, ◌+◌, ◌-◌, ◌*◌, ◌==◌, ◌&&◌, ◌||◌, Bool, nat_lt, if◌then◌else◌, List, ◌∷◌}

-- a lower-case hexadecimal digit: `0` is the byte 48, `a` the byte 97
abbrev pub is_hex_digit : ℕ → Bool
is_hex_digit digit = nat_lt 47 digit && nat_lt digit 58 || nat_lt 96 digit && nat_lt digit 103

-- the number of such a digit
abbrev pub hex_value : ℕ → ℕ
hex_value digit = if nat_lt digit 58 then digit - 48 else digit - 87

-- two backslashes
abbrev pub is_double : ℕ → ℕ → Bool
is_double first second = (first == 92) && (second == 92)

-- a backslash, an `x` and two digits
abbrev pub is_numbered : ℕ → ℕ → ℕ → ℕ → Bool
is_numbered first second high low = (first == 92) && (second == 120) && is_hex_digit high && is_hex_digit low

-- the bytes that a field stands for: two backslashes are one, `\x` and two digits the byte of that number, and any other
-- byte is itself
abbrev pub plain_bytes : List ℕ → List ℕ
plain_bytes (first ∷ second ∷ high ∷ low ∷ rest) =
    if is_double first second then 92 ∷ plain_bytes (high ∷ low ∷ rest)
    else if is_numbered first second high low then (hex_value high * 16 + hex_value low) ∷ plain_bytes rest
    else first ∷ plain_bytes (second ∷ high ∷ low ∷ rest)
plain_bytes (first ∷ second ∷ rest) =
    if is_double first second then 92 ∷ plain_bytes rest
    else first ∷ plain_bytes (second ∷ rest)
plain_bytes short = short
