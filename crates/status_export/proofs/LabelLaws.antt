-- A label's value is read as it was, up to the quote after it, and holds no LF.
use Rattle.std.proofs.Common.{◌≡◌, ℕ, ◌==◌, Bool, false, List, [], ◌∷◌, ◌++◌, Some, refl, ap, ◌∙◌, arith, append_assoc}
use Rattle.std.specs.List.{list_any}
use Rattle.std.proofs.lemmas.Bool.{or_from, or_parts}
use Rattle.std.proofs.lemmas.Grind.{common_steps}
use Rattle.status_export.specs.Gauges.{value_byte, value_text, with_byte, read_value}

-- what stands for a byte is read as that byte
read-byte : (byte : ℕ) (rest : List ℕ) → read_value false (value_byte byte ++ rest) ≡ with_byte byte (read_value false rest)
read-byte byte rest = grind (arith, common_steps)

pub value_read : (value rest : List ℕ) → read_value false (value_text value ++ 34 ∷ rest) ≡ Some (value, rest)
value_read [] rest = refl
value_read (byte ∷ value) rest =
    ap (read_value false) (append_assoc (value_byte byte) (value_text value) (34 ∷ rest))
    ∙ read-byte byte (value_text value ++ 34 ∷ rest)
    ∙ ap (with_byte byte) (value_read value rest)

none-append : (test : ℕ → Bool) (front back : List ℕ) → list_any test front ≡ false → list_any test back ≡ false → list_any test (front ++ back) ≡ false
none-append test [] back one other = other
none-append test (byte ∷ front) back one other = let facts = or_parts (test byte) (list_any test front) one in or_from (test byte) (list_any test (front ++ back)) facts.0 (none-append test front back facts.1 other)

byte-line : (byte : ℕ) → list_any (λ other. other == 10) (value_byte byte) ≡ false
byte-line byte = grind (arith, common_steps)

pub value_line : (value : List ℕ) → list_any (λ byte. byte == 10) (value_text value) ≡ false
value_line [] = refl
value_line (byte ∷ value) = none-append (λ other. other == 10) (value_byte byte) (value_text value) (byte-line byte) (value_line value)
