-- Numbers in a line: what is read is digits, and what is written in digits is read.
use Rattle.std.proofs.Common.{◌≡◌, ◌≢◌, ◌∙◌, ap, sym, refl, subst, ℕ, zero, suc, ◌≤◌, ◌<◌, ◌^◌, Bool, true, false, List, [], ◌∷◌, length, get_or, ◌==◌, cond, Option, Some, None, ℤ, pos, negsuc, neg_ℤ, inl, inr, arith}
use Rattle.std.specs.List.{list_any}
use Rattle.std.specs.Option.{option_map}
use Rattle.std.specs.Fmt.{decimal, signed_decimal}
use Rattle.std.specs.Str.{all_ascii_digits}
use Rattle.std.specs.Str.Parse.{digits_value, AllDigits}
use Rattle.std.proofs.lemmas.Bool.{ne_eqb, and_from, and_parts, or_from, cond-true, cond-false, cases_Bool, lt-ltb, ltb-true}
use Rattle.std.proofs.lemmas.Fmt.{decimal_is_IsNumeral, decimal_nonempty, length-decimal-le}
use Rattle.std.proofs.lemmas.Int.Digits.{digits_value-lt}
use Rattle.std.proofs.lemmas.Str.Parse.{IsNumeralModel, numerals_by_value, tells_all_ascii_digits, digit_from_value, digit_at}
use Rattle.gate_grammar.specs.Numbers.{number_below, code_of}

digits_tell : IsNumeralModel (λ text. all_ascii_digits text ≡ true) (digits_value 10)
digits_tell = numerals_by_value _ tells_all_ascii_digits

-- ---- what is read

chosen : (test : Bool) (value found : ℕ) → cond test (Some value) None ≡ Some found → (test ≡ true) × (value ≡ found)
chosen true value found is = (refl, cc)
chosen false value found is = cc

pub record IsNumberText (limit : ℕ) (text : List ℕ) (found : ℕ) : Type 0 where
  pub some : 0 < length text
  pub digits : AllDigits 10 text
  pub value : digits_value 10 text ≡ found
  pub small : found < limit

pub number_facts : (limit : ℕ) (text : List ℕ) (found : ℕ) → number_below limit text ≡ Some found → IsNumberText limit text found
unfolding number_below
number_facts limit text found is =
    let both = chosen _ (digits_value 10 text) found is in
    let numeral = and_parts _ _ both.0 in
    let digits = and_parts _ _ numeral.0 in
    let sizes = and_parts _ _ digits.0 in
    let less = ltb-true _ _ numeral.1 in
    let value = both.1 in
    record {
      some = ltb-true _ _ sizes.0;
      digits = digits_tell.to text digits.1;
      value = value;
      small = omega (arith, less);
    }

-- a text isn't shorter than its number in decimal
pub number_short : (limit : ℕ) (text : List ℕ) (found : ℕ) → limit ≤ 2 ^ 32 → number_below limit text ≡ Some found → length (decimal found) ≤ length text
number_short limit text found small is =
    let facts = number_facts limit text found is in
    let value = facts.value in
    let few = digits_value-lt 10 text facts.digits in
    let less = facts.small in
    length-decimal-le (length text) found facts.some (omega arith) (omega arith)

short_negated : (found : Option ℕ) (code : ℤ) (size : ℕ) → ((number : ℕ) → found ≡ Some number → length (decimal number) ≤ size) → option_map (λ number. neg_ℤ (pos number)) found ≡ Some code → length (signed_decimal code) ≤ suc size
short_negated None code size short is = cc
short_negated (Some zero) code size short is = let same : pos 0 ≡ code = cc in let fits = short 0 refl in subst (λ x. length (signed_decimal x) ≤ suc size) same (omega arith)
short_negated (Some (suc number)) code size short is = let same : negsuc number ≡ code = cc in let fits = short (suc number) refl in subst (λ x. length (signed_decimal x) ≤ suc size) same (omega arith)

short_plain : (found : Option ℕ) (code : ℤ) (size : ℕ) → ((number : ℕ) → found ≡ Some number → length (decimal number) ≤ size) → option_map (λ number. pos number) found ≡ Some code → length (signed_decimal code) ≤ size
short_plain None code size short is = cc
short_plain (Some number) code size short is = let same : pos number ≡ code = cc in subst (λ x. length (signed_decimal x) ≤ size) same (short number refl)

pub code_short : (text : List ℕ) (code : ℤ) → code_of text ≡ Some code → length (signed_decimal code) ≤ length text
code_short [] code is = cc
code_short (first ∷ rest) code is = elim (cases_Bool (first == 45)) [ inl minus ↦ short_negated (number_below 32769 rest) code (length rest) (λ number found. number_short 32769 rest number (omega arith) found) (sym (cond-true _ _ _ minus) ∙ is) | inr other ↦ short_plain (number_below 32768 (first ∷ rest)) code (length (first ∷ rest)) (λ number found. number_short 32768 (first ∷ rest) number (omega arith) found) (sym (cond-false _ _ _ other) ∙ is) ]

-- ---- what is written

pub decimal_digits : (number : ℕ) → number < 2 ^ 64 → AllDigits 10 (decimal number)
decimal_digits number small = (decimal_is_IsNumeral number small).0.1

pub number_decimal : (limit number : ℕ) → limit ≤ 2 ^ 32 → number < limit → number_below limit (decimal number) ≡ Some number
unfolding number_below
number_decimal limit number small less =
    let numeral = decimal_is_IsNumeral number (omega arith) in
    let some = decimal_nonempty number (omega arith) in
    let few : length (decimal number) ≤ 10 = length-decimal-le 10 number (omega arith) (omega arith) (omega arith) in
    let value : digits_value 10 (decimal number) ≡ number = numeral.1 in
    cond-true _ _ _ (and_from _ _ (and_from _ _ (and_from _ _ (lt-ltb 0 (length (decimal number)) some) (lt-ltb (length (decimal number)) 11 (omega arith))) (digits_tell.from (decimal number) numeral.0.1)) (lt-ltb _ _ (omega arith))) ∙ ap Some value

code_plain : (text : List ℕ) → 0 < length text → get_or text 0 0 ≢ 45 → code_of text ≡ option_map (λ number. pos number) (number_below 32768 text)
code_plain [] some other = absurd (omega arith)
code_plain (first ∷ rest) some other = cond-false _ _ _ (ne_eqb first 45 other)

pub code_decimal_plain : (number : ℕ) → number < 32768 → code_of (signed_decimal (pos number)) ≡ Some (pos number)
code_decimal_plain number small =
    let some = decimal_nonempty number (omega arith) in
    let first = digit_at (decimal number) 0 (decimal_digits number (omega arith)) some in
    let other : get_or (decimal number) 0 0 ≢ 45 = λ e. omega (arith, first) in
    code_plain (decimal number) some other ∙ ap (option_map (λ n. pos n)) (number_decimal 32768 number (omega arith) small)

pub code_decimal_minus : (number : ℕ) → number < 32768 → code_of (signed_decimal (negsuc number)) ≡ Some (negsuc number)
code_decimal_minus number small = ap (option_map (λ n. neg_ℤ (pos n))) (number_decimal 32769 (suc number) (omega arith) (omega arith))

-- ---- bytes that are no digits

pub none_in_digits : (test : ℕ → Bool) → ((byte : ℕ) → 48 ≤ byte → byte ≤ 57 → test byte ≡ false) → (digits : List ℕ) → AllDigits 10 digits → list_any test digits ≡ false
none_in_digits test none [] all = refl
none_in_digits test none (byte ∷ rest) all =
    let range = digit_from_value byte all.0 in
    or_from (test byte) (list_any test rest) (none byte (omega (arith, range)) (omega (arith, range))) (none_in_digits test none rest all.1)

pub digit_isnt : (other byte : ℕ) → 48 ≤ byte → byte ≤ 57 → (byte ≡ other → ⊥) → (byte == other) ≡ false
digit_isnt other byte low high differs = ne_eqb byte other differs
