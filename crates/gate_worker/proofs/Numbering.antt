-- Numbers of items that go on from those before.
use Rattle.std.proofs.Common.{◌≡◌, ℕ, zero, suc, ◌+◌, List, [], ◌∷◌, ◌++◌, length, refl, sym, ap, ◌∙◌, arith, length-append}
use Rattle.gate_model.specs.declared.submission.Numbered.{Numbered}
use Rattle.gate_reader.specs.Session.{AreNumberedAfter}
use Rattle.gate_worker.specs.Numbers.{item_numbers, numbers_after}

pub item_numbers-append : (xs ys : List Numbered) → item_numbers (xs ++ ys) ≡ item_numbers xs ++ item_numbers ys
item_numbers-append [] ys = refl
item_numbers-append (x ∷ xs) ys = ap (λ l. x.number ∷ l) (item_numbers-append xs ys)

pub numbers_after-add : (number n m : ℕ) → numbers_after number (n + m) ≡ numbers_after number n ++ numbers_after (number + n) m
numbers_after-add number zero m =
    let e : number ≡ number + 0 = omega arith in
    let f : 0 + m ≡ m = omega arith in
    ap (numbers_after number) f ∙ ap (λ k. numbers_after k m) e
numbers_after-add number (suc n) m =
    let e : suc number + n ≡ number + suc n = omega arith in
    let f : suc n + m ≡ suc (n + m) = omega arith in
    ap (numbers_after number) f ∙ ap (λ l. suc number ∷ l) (numbers_after-add (suc number) n m ∙ ap (λ k. numbers_after (suc number) n ++ numbers_after k m) e)

-- items that are numbered after a count have the numbers after it
pub numbers_of_items : (count : ℕ) (items : List Numbered) → AreNumberedAfter count items → item_numbers items ≡ numbers_after count (length items)
numbers_of_items count [] after = refl
numbers_of_items count (item ∷ items) after =
    let e : count + 1 ≡ suc count = omega arith in
    ap (λ k. k ∷ item_numbers items) (after.0 ∙ e)
    ∙ ap (λ l. suc count ∷ l) (numbers_of_items (count + 1) items after.1 ∙ ap (λ k. numbers_after k (length items)) e)

-- the numbers go on after the old ones, and again after those
pub numbers_go_on : (old more : List Numbered) → item_numbers old ≡ numbers_after 0 (length old) → item_numbers more ≡ numbers_after (length old) (length more) → item_numbers (old ++ more) ≡ numbers_after 0 (length (old ++ more))
numbers_go_on old more first next =
    let e : 0 + length old ≡ length old = omega arith in
    item_numbers-append old more ∙ ap (λ l. l ++ item_numbers more) first ∙ ap (λ l. numbers_after 0 (length old) ++ l) next
    ∙ sym (ap (numbers_after 0) (length-append old more) ∙ numbers_after-add 0 (length old) (length more) ∙ ap (λ k. numbers_after 0 (length old) ++ numbers_after k (length more)) e)

-- the next number, after those from 1 on
pub numbers_after-next : (n : ℕ) → numbers_after 0 n ++ suc n ∷ [] ≡ numbers_after 0 (suc n)
numbers_after-next n =
    let e : n + 1 ≡ suc n = omega arith in
    let f : suc (0 + n) ≡ suc n = omega arith in
    sym (ap (numbers_after 0) (sym e) ∙ numbers_after-add 0 n 1 ∙ ap (λ k. numbers_after 0 n ++ k ∷ []) f)
