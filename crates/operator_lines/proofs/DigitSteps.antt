-- The number in a line: its first digit, and what stands from there up to the LF.
use Rattle.std.proofs.Common.{◌≡◌, ℕ, ◌+◌, ◌-◌, ◌<◌, ◌^◌, Bool, true, false, List, [], ◌∷◌, ◌++◌, length, length-append, take, drop, filter, Some, None, Result, is_some, unwrap_or, IsUtf8, refl, ap, ◌∙◌, arith, decimal, position}
use Rattle.std.specs.Char.{is_ascii_digit}
use Rattle.std.specs.List.{list_any, position_or_len}
use Rattle.std.specs.Str.{all_ascii_digits}
use Rattle.std.specs.Str.Parse.{digits_value, ParsesUnsigned}
use Rattle.std.specs.Result.{result_unwrap_or}
use Rattle.std.proofs.lemmas.Grind.{common_steps}
use Rattle.std.proofs.lemmas.Fmt.{decimal_is_IsNumeral, parse-decimal, IsAscii-decimal}
use Rattle.std.proofs.lemmas.Str.{IsUtf8-from_ascii}
use Rattle.std.proofs.lemmas.Bool.{false≢true}
use Rattle.std.proofs.lemmas.List.{drop_all, take_all, take-append-le, drop-append-le}
use Rattle.std.proofs.lemmas.Str.Parse.{IsNumeralModel, numerals_by_value, tells_all_ascii_digits}

own : IsNumeralModel (λ digits. all_ascii_digits digits ≡ true) (digits_value 10)
own = numerals_by_value _ tells_all_ascii_digits

-- a number's digits
pub digits_of : (number : ℕ) → number < 2 ^ 64 → (0 < length (decimal number)) × (all_ascii_digits (decimal number) ≡ true) × (digits_value 10 (decimal number) ≡ number)
digits_of number small =
    let is = decimal_is_IsNumeral number small in
    (is.0.0, own.from (decimal number) is.0.1, is.1)

-- ---- the first digit

at_digit : (text digits rest : List ℕ) → list_any is_ascii_digit text ≡ false → 0 < length digits → all_ascii_digits digits ≡ true
    → position_or_len is_ascii_digit (text ++ (digits ++ rest)) ≡ length text
at_digit [] [] rest clean some all = absurd (omega arith)
at_digit [] (digit ∷ digits) rest clean some all = grind (arith, common_steps)
at_digit (byte ∷ text) digits rest clean some all =
    let further : list_any is_ascii_digit text ≡ false → position_or_len is_ascii_digit (text ++ (digits ++ rest)) ≡ length text =
    λ none. at_digit text digits rest none some all in
    grind (arith, common_steps)

pub first_at : (text digits rest : List ℕ) → list_any is_ascii_digit text ≡ false → 0 < length digits → all_ascii_digits digits ≡ true
    → position is_ascii_digit (text ++ (digits ++ rest)) ≡ Some (length text)
first_at text digits rest clean some all =
    let at = at_digit text digits rest clean some all in
    let whole : length (text ++ (digits ++ rest)) ≡ length text + (length digits + length rest) = simp (length-append) in
    rw at (rw whole (grind (arith, common_steps)))

pub found_at : (line text : List ℕ) (number : ℕ) → list_any is_ascii_digit text ≡ false → number < 2 ^ 64
    → line ≡ text ++ (decimal number ++ 10 ∷ []) → position is_ascii_digit line ≡ Some (length text)
found_at line text number clean small is =
    let digits = digits_of number small in
    ap (position is_ascii_digit) is ∙ first_at text (decimal number) (10 ∷ []) clean digits.0 digits.1

-- what stands from there up to the last byte
drop_front : (text rest : List ℕ) → drop (length text) (text ++ rest) ≡ rest
drop_front text rest =
    drop-append-le (length text) text rest (omega arith) ∙ ap (λ left. left ++ rest) (drop_all (length text) text (omega arith))

take_front : (digits rest : List ℕ) → take (length digits) (digits ++ rest) ≡ digits
take_front digits rest = take-append-le (length digits) digits rest (omega arith) ∙ take_all (length digits) digits (omega arith)

between : (text digits : List ℕ) (last : ℕ)
    → take (length (text ++ (digits ++ last ∷ [])) - 1 - length text) (drop (length text) (text ++ (digits ++ last ∷ []))) ≡ digits
between text digits last =
    let whole = text ++ (digits ++ last ∷ []) in
    let count : length whole - 1 - length text ≡ length digits =
    omega (arith, length-append text (digits ++ last ∷ []), length-append digits (last ∷ [])) in
    ap (λ n. take n (drop (length text) whole)) count
    ∙ ap (take (length digits)) (drop_front text (digits ++ last ∷ []))
    ∙ take_front digits (last ∷ [])

pub digits_at : (line text : List ℕ) (number start : ℕ) → list_any is_ascii_digit text ≡ false → number < 2 ^ 64
    → line ≡ text ++ (decimal number ++ 10 ∷ []) → Some start ≡ position is_ascii_digit line
    → take (length line - 1 - start) (drop start line) ≡ decimal number
digits_at line text number start clean small is found =
    let at : start ≡ length text = ap (λ place. unwrap_or place 0) (found ∙ found_at line text number clean small is) in
    ap (λ n. take (length line - 1 - n) (drop n line)) at
    ∙ ap (λ bytes. take (length bytes - 1 - length text) (drop (length text) bytes)) is
    ∙ between text (decimal number) 10

pub utf8_digits : (number : ℕ) → number < 2 ^ 64 → IsUtf8 (decimal number)
utf8_digits number small = IsUtf8-from_ascii (decimal number) (IsAscii-decimal number small)

pub none_found : (line text : List ℕ) (number : ℕ) → list_any is_ascii_digit text ≡ false → number < 2 ^ 64
    → line ≡ text ++ (decimal number ++ 10 ∷ []) → None ≡ position is_ascii_digit line → 0 ≡ number
none_found line text number clean small is none =
    absurd (false≢true (ap is_some (none ∙ found_at line text number clean small is)))

pub parsed : {E : Type 0} (bytes : List ℕ) (number : ℕ) (read : Result ℕ E) (given : ℕ) → number < 2 ^ 64 → bytes ≡ decimal number
    → ParsesUnsigned 64 10 bytes read → given ≡ result_unwrap_or read 0 → given ≡ number
parsed {E} bytes number read given small is reads unwraps =
    unwraps ∙ ap (λ (out : Result ℕ E). result_unwrap_or out 0) (parse-decimal 64 number bytes read small small is reads)

-- ---- the digits of a line

digits_alone : (digits : List ℕ) → all_ascii_digits digits ≡ true → filter is_ascii_digit (digits ++ 10 ∷ []) ≡ digits
digits_alone [] all = refl
digits_alone (digit ∷ digits) all =
    let further : all_ascii_digits digits ≡ true → filter is_ascii_digit (digits ++ 10 ∷ []) ≡ digits = digits_alone digits in
    grind (arith, common_steps)

-- the number that a line's digits spell
abbrev pub line_number : List ℕ → ℕ
line_number line = digits_value 10 (filter is_ascii_digit line)

pub number_at_end : (number : ℕ) → number < 2 ^ 64 → digits_value 10 (filter is_ascii_digit (decimal number ++ 10 ∷ [])) ≡ number
number_at_end number small = ap (digits_value 10) (digits_alone (decimal number) (digits_of number small).1) ∙ (digits_of number small).2
