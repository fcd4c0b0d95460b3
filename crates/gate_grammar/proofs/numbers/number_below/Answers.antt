use Rattle.std.proofs.Common.{rules, ◌≤◌, length, take, inl, inr, arith, sym, ap, ◌∙◌, Some}
use Rattle.std.proofs.lemmas.Str.Parse.{digit_at}
use Rattle.std.proofs.lemmas.List.{length-take-le}
use Rattle.gate_grammar.proofs.Digits.{below_long, below_other, below_less, below_more, ten_digits, longer, whole_value}
use Rattle.gate_grammar.proofs.numbers.number_below.Goals as goal
use Rattle.gate_grammar.proofs.numbers.number_below.Goals.{then-is_empty-via-then-is_empty, then-is_empty-via-else-is_empty+then-text-gt-DIGITS}

pub returns-then-is_empty-clause-value : goal.returns-then-is_empty-clause-value
returns-then-is_empty-clause-value c = elim c.then-is_empty.branch [ then-is_empty-via-then-is_empty w ↦ sym (below_long c.args.limit c.args.text.now (inl (search rules))) | then-is_empty-via-else-is_empty+then-text-gt-DIGITS w ↦ sym (below_long c.args.limit c.args.text.now (inr (omega arith))) ]

pub returns-then-not-is_ascii_digit-clause-value : goal.returns-then-not-is_ascii_digit-clause-value
returns-then-not-is_ascii_digit-clause-value c = sym (below_other c.args.limit c.args.text.now (λ h. let r = digit_at c.args.text.now c.loop-digit.digit-index h c.loop-digit-test.true in grind (arith, c.if-not-is_ascii_digit.ensures)))

pub overflow_mul-value : goal.overflow_mul-value
overflow_mul-value c =
    let few : length (take c.loop-digit.digit-index c.args.text.now) ≤ 10 = omega (arith, length-take-le c.loop-digit.digit-index c.args.text.now) in
    let h = ten_digits (take c.loop-digit.digit-index c.args.text.now) few c.loop-digit.invariant.digits in omega arith

pub overflow_add-value : goal.overflow_add-value
overflow_add-value c =
    let few : length (take c.loop-digit.digit-index c.args.text.now) ≤ 10 = omega (arith, length-take-le c.loop-digit.digit-index c.args.text.now) in
    let h = ten_digits (take c.loop-digit.digit-index c.args.text.now) few c.loop-digit.invariant.digits in omega arith

pub loop-digit-preserved : goal.loop-digit-preserved
loop-digit-preserved c =
    let l = longer c.args.text.now c.loop-digit.digit-index c.loop-digit-test.true (search (rules, c.if-not-is_ascii_digit.ensures)) c.loop-digit.invariant.digits in
    record { digits = l.digits; value = omega (arith, l.value) }

pub returns-then-value-limit-clause-value : goal.returns-then-value-limit-clause-value
returns-then-value-limit-clause-value c =
    let w = whole_value c.args.text.now c.loop-digit.digit-index c.loop-digit.value (omega arith) c.loop-digit.invariant.digits c.loop-digit.invariant.value in
    ap Some w.1 ∙ sym (below_less c.args.limit c.args.text.now (search rules) (omega arith) w.0 (omega arith))

pub returns-else-value-limit-clause-value : goal.returns-else-value-limit-clause-value
returns-else-value-limit-clause-value c =
    let w = whole_value c.args.text.now c.loop-digit.digit-index c.loop-digit.value (omega arith) c.loop-digit.invariant.digits c.loop-digit.invariant.value in
    sym (below_more c.args.limit c.args.text.now (omega arith))
