-- An object's depth is the number of the entries on its page that have begun.
use Rattle.std.proofs.Common.{◌≡◌, ℕ, ◌+◌, ◌&&◌, Bool, true, false, cond, List, [], ◌∷◌, map, filter, reverse, Option, Some, None, refl, sym, ap, ◌∙◌, arith}
use Rattle.std.specs.Prelude.{count_by, is_some, if◌then◌else◌}
use Rattle.std.specs.List.{AllByRecursion}
use Rattle.std.proofs.lemmas.List.{reverse-append}
use Rattle.std.proofs.lemmas.List.Sums.{sum_by-cons, sum_by_push}
use Rattle.gate_model.specs.declared.record.Moment.{Moment}
use Rattle.gate_model.specs.Downtime.{is_begun_by}
use Rattle.gate_pages.specs.Rows.{shown_begin}

swapped : (whole front back other : ℕ) → whole ≡ front + back → front ≡ other → whole ≡ back + other
swapped whole front back other is same = omega (arith, is, same)

module _ {A : Type 0} (test : A → Bool) where
  count_cons : (one : A) (list : List A) → count_by test (one ∷ list) ≡ cond (test one) 1 0 + count_by test list
  count_cons one list = sum_by-cons (λ (x : A). cond (test x) 1 0) one list

  pub count_reverse : (list : List A) → count_by test (reverse list) ≡ count_by test list
  count_reverse [] = refl
  count_reverse (one ∷ list) =
      swapped (count_by test (reverse (one ∷ list))) (count_by test (reverse list)) (cond (test one) 1 0) (count_by test list)
      (ap (count_by test) (reverse-append (one ∷ []) list) ∙ sum_by_push (λ (x : A). cond (test x) 1 0) (reverse list) one)
      (count_reverse list)
      ∙ sym (count_cons one list)

  count_if : (other : A → Bool) (kept : Bool) (one : A) (list rest : List A) → kept ≡ other one
      → count_by test list ≡ count_by (λ x. other x && test x) rest
      → count_by test (if kept then one ∷ list else list) ≡ cond (other one && test one) 1 0 + count_by (λ x. other x && test x) rest
  count_if other true one list rest is same =
      count_cons one list ∙ ap (λ count. cond (test one) 1 0 + count) same
      ∙ ap (λ (b : Bool). cond (b && test one) 1 0 + count_by (λ x. other x && test x) rest) is
  count_if other false one list rest is same =
      let none : count_by (λ x. other x && test x) rest ≡ 0 + count_by (λ x. other x && test x) rest = omega arith in
      same ∙ none ∙ ap (λ (b : Bool). cond (b && test one) 1 0 + count_by (λ x. other x && test x) rest) is

  pub count_filter : (other : A → Bool) (list : List A) → count_by test (filter other list) ≡ count_by (λ x. other x && test x) list
  count_filter other [] = refl
  count_filter other (one ∷ list) =
      count_if other (other one) one (filter other list) list refl (count_filter other list)
      ∙ sym (sum_by-cons (λ (x : A). cond (other x && test x) 1 0) one list)

pub count_agree : {A : Type 0} (test other : A → Bool) (list : List A) → AllByRecursion (λ one. test one ≡ other one) list
    → count_by test list ≡ count_by other list
count_agree test other [] all = refl
count_agree test other (one ∷ list) all =
    count_cons test one list
    ∙ ap (λ (holds : Bool). cond holds 1 0 + count_by test list) all.0
    ∙ ap (λ count. cond (other one) 1 0 + count) (count_agree test other list all.1)
    ∙ sym (count_cons other one list)

pub count_map : {A B : Type 0} (test : B → Bool) (made : A → B) (list : List A) → count_by test (map made list) ≡ count_by (λ one. test (made one)) list
count_map test made [] = refl
count_map test made (one ∷ list) =
    count_cons test (made one) (map made list)
    ∙ ap (λ count. cond (test (made one)) 1 0 + count) (count_map test made list)
    ∙ sym (count_cons (λ x. test (made x)) one list)

shown_if : (begun : Bool) (begin : ℕ) → is_some (if begun then Some begin else None) ≡ begun
shown_if true begin = refl
shown_if false begin = refl

-- a beginning is shown once it has come
pub begun_shown : (moment : Moment) (begin : Option ℕ) → is_some (shown_begin moment begin) ≡ is_begun_by moment.0 begin
begun_shown moment None = refl
begun_shown moment (Some begin) = shown_if (is_begun_by moment.0 (Some begin)) begin

pub and_turned : (live begun here : Bool) → (live && (begun && here)) ≡ (here && (live && begun))
and_turned true true true = refl
and_turned true true false = refl
and_turned true false true = refl
and_turned true false false = refl
and_turned false true true = refl
and_turned false true false = refl
and_turned false false true = refl
and_turned false false false = refl
