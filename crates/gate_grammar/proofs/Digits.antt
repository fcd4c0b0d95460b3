-- A text of digits, and its number.
use Rattle.std.proofs.Common.{take_all, get_or, ap, ◌∙◌, ◌-◌, ◌≡◌, ℕ, ◌+◌, ◌*◌, ◌<◌, ◌≤◌, ◌^◌, ◌⊎◌, inl, inr, true, List, length, take, Some, None, arith}
use Rattle.std.specs.Char.{digit_value}
use Rattle.std.specs.Int.{IsInRange}
use Rattle.std.specs.Str.{all_ascii_digits}
use Rattle.std.specs.Str.Parse.{digits_value, AllDigits}
use Rattle.std.proofs.lemmas.Str.Parse.{IsNumeralModel, numerals_by_value, tells_all_ascii_digits}
use Rattle.std.proofs.lemmas.Str.{digit_value_digit}
use Rattle.std.proofs.lemmas.Int.Digits.{digits_value-lt, digits_more, digits_value_more}
use Rattle.std.proofs.lemmas.Bool.{and_from, and_left, and_right, cond-true, cond-false, lt-ltb, le-ltb, false_from_ne_true}
use Rattle.std.proofs.Math.Nat.{pow-le-pow_right}
use Rattle.gate_grammar.specs.Numbers.{number_below}

pub own : IsNumeralModel (λ ds. all_ascii_digits ds ≡ true) (digits_value 10)
own = numerals_by_value _ tells_all_ascii_digits

pub below_long : (limit : ℕ) (text : List ℕ) → (length text ≡ 0) ⊎ (10 < length text) → number_below limit text ≡ None
unfolding number_below
below_long limit text (inl h) = cond-false _ _ _ (and_left _ _ (and_left _ _ (and_left _ _ (le-ltb 0 (length text) (omega arith)))))
below_long limit text (inr h) = cond-false _ _ _ (and_left _ _ (and_left _ _ (and_right _ _ (le-ltb (length text) 11 (omega arith)))))

pub below_other : (limit : ℕ) (text : List ℕ) → (AllDigits 10 text → ⊥) → number_below limit text ≡ None
unfolding number_below
below_other limit text h = cond-false _ _ _ (and_left _ _ (and_right _ _ (false_from_ne_true _ (λ e. h (own.to text e)))))

pub below_less : (limit : ℕ) (text : List ℕ) → 0 < length text → length text ≤ 10 → AllDigits 10 text → digits_value 10 text < limit → number_below limit text ≡ Some (digits_value 10 text)
unfolding number_below
below_less limit text some few digits less = cond-true _ _ _ (and_from _ _ (and_from _ _ (and_from _ _ (lt-ltb 0 (length text) some) (lt-ltb (length text) 11 (omega arith))) (own.from text digits)) (lt-ltb _ _ less))

pub below_more : (limit : ℕ) (text : List ℕ) → limit ≤ digits_value 10 text → number_below limit text ≡ None
unfolding number_below
below_more limit text more = cond-false _ _ _ (and_right _ _ (le-ltb _ _ more))

-- ten digits fit 64 bits
pub ten_digits : (text : List ℕ) → length text ≤ 10 → AllDigits 10 text → digits_value 10 text < 10000000000
ten_digits text few digits =
    let most : 10 ^ length text ≤ 10 ^ 10 = pow-le-pow_right (omega arith) few in
    omega (arith, digits_value-lt 10 text digits)

-- one more digit
pub record Longer (text : List ℕ) (i : ℕ) : Type 0 where
  pub digits : AllDigits 10 (take (i + 1) text)
  pub value : digits_value 10 (take (i + 1) text) ≡ digits_value 10 (take i text) * 10 + (get_or text i 0 - 48)

pub longer : (text : List ℕ) (i : ℕ) → i < length text → IsInRange 48 57 (get_or text i 0) → AllDigits 10 (take i text) → Longer text i
longer text i at range digits =
    let is : digit_value (get_or text i 0) ≡ get_or text i 0 - 48 = omega (arith, digit_value_digit (get_or text i 0) range) in
    record {
      digits = digits_more 10 text i at digits (omega (arith, is));
      value = digits_value_more 10 text i at ∙ ap (λ d. digits_value 10 (take i text) * 10 + d) is;
    }

pub whole_value : (text : List ℕ) (i value : ℕ) → length text ≤ i → AllDigits 10 (take i text) → value ≡ digits_value 10 (take i text) → AllDigits 10 text × (value ≡ digits_value 10 text)
whole_value text i value all digits is = (rw (take_all i text all) at digits, is ∙ ap (digits_value 10) (take_all i text all))
