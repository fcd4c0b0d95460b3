-- How a page shows a text of any bytes: `escaped`. Own rule: a backslash becomes two, a control byte becomes `\x` and
-- two hexadecimal digits, and every other byte stays, `;` and bytes above 127 among them.
use Rattle.std.specs.Prelude.{ℕ, ◌/◌, ◌%◌, ◌==◌, ◌||◌, Bool, nat_lt, if◌then◌else◌, List, [], ◌∷◌, ◌++◌, slice_index, codes}
use Rattle.std.specs.List.{flat_map}

-- the lower-case hexadecimal digit of a number below 16
abbrev pub hex_digit : ℕ → ℕ
hex_digit n = slice_index (codes "0123456789abcdef") n

-- a byte is not shown as it is: a backslash or a control byte
abbrev pub is_escaped : ℕ → Bool
is_escaped byte = (byte == 92) || nat_lt byte 32 || (byte == 127)

-- what stands for such a byte: two backslashes, or `\x` and the byte in two hexadecimal digits
abbrev pub escape_of : ℕ → List ℕ
escape_of byte =
    if byte == 92 then codes "\\\\"
    else codes "\\x" ++ hex_digit (byte / 16) ∷ hex_digit (byte % 16) ∷ []

-- a byte as a page shows it
abbrev pub escaped_byte : ℕ → List ℕ
escaped_byte byte = if is_escaped byte then escape_of byte else byte ∷ []

-- a text as a page shows it
abbrev pub escaped : List ℕ → List ℕ
escaped text = flat_map escaped_byte text
