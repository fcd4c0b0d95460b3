-- Facts on lists that std lacks.
use Rattle.std.proofs.Common.{◌≡◌, ℕ, zero, suc, ◌+◌, ◌<◌, ◌≤◌, Bool, true, false, cond, List, [], ◌∷◌, ◌++◌, map, length, inl, inr, arith, Option, Some, None, is_some, refl, sym, ap, ◌∙◌}
use Rattle.std.specs.List.{position_from, list_any}
use Rattle.std.specs.Prelude.{slice_get}
use Rattle.std.proofs.lemmas.Bool.{cases_Bool, true≢false, cond-true, cond-false, or_from}

abbrev pub none : {A : Type 0} → Option A
none = None

abbrev pub found : {A : Type 0} → A → Option A
found x = Some x

pub none_is_not_some : {A : Type 0} (x : A) → none {A = A} ≡ Some x → ⊥
none_is_not_some x e = cc

pub some_is : {A : Type 0} (x y : A) → found x ≡ Some y → x ≡ y
some_is x y e = cc

-- what isn't some is none
pub none_from_is_some : {A : Type 0} (o : Option A) → is_some o ≡ false → o ≡ None
none_from_is_some None e = refl
none_from_is_some (Some x) e = absurd (true≢false e)

pub position_from-map : {A B : Type 0} (f : A → B) (test : B → Bool) (i : ℕ) (xs : List A) → position_from test i (map f xs) ≡ position_from (λ x. test (f x)) i xs
position_from-map f test i [] = refl
position_from-map f test i (x ∷ xs) = ap (λ (r : Option ℕ). cond (test (f x)) (Some i) r) (position_from-map f test (i + 1) xs)

-- where nothing else passes, one more at the end is found where it does
pub position_from-last : {A : Type 0} (test : A → Bool) (i : ℕ) (xs : List A) (x : A) → position_from test i xs ≡ None → position_from test i (xs ++ x ∷ []) ≡ cond (test x) (Some (i + length xs)) None
position_from-last test i [] x e = ap (λ (n : ℕ). cond (test x) (Some n) None) (omega arith)
position_from-last test i (y ∷ xs) x e = elim (cases_Bool (test y)) [
  | inl passes ↦ absurd (none_is_not_some i (sym e ∙ cond-true (test y) (Some i) (position_from test (i + 1) xs) passes))
  | inr fails ↦
      cond-false (test y) (Some i) (position_from test (i + 1) (xs ++ x ∷ [])) fails
      ∙ position_from-last test (i + 1) xs x (sym (cond-false (test y) (Some i) (position_from test (i + 1) xs) fails) ∙ e)
      ∙ ap (λ (n : ℕ). cond (test x) (Some n) None) (omega arith)
]

-- one more at the end that fails changes nothing
pub position_from-failing : {A : Type 0} (test : A → Bool) (i : ℕ) (xs : List A) (x : A) → test x ≡ false → position_from test i (xs ++ x ∷ []) ≡ position_from test i xs
position_from-failing test i [] x fails = cond-false (test x) (Some i) None fails
position_from-failing test i (y ∷ xs) x fails = ap (λ (r : Option ℕ). cond (test y) (Some i) r) (position_from-failing test (i + 1) xs x fails)

-- where no index is found nothing passes
pub list_any_from_position : {A : Type 0} (test : A → Bool) (i : ℕ) (xs : List A) → position_from test i xs ≡ None → list_any test xs ≡ false
list_any_from_position test i [] e = refl
list_any_from_position test i (x ∷ xs) e = elim (cases_Bool (test x)) [
  | inl passes ↦ absurd (none_is_not_some i (sym e ∙ cond-true (test x) (Some i) (position_from test (i + 1) xs) passes))
  | inr fails ↦ or_from (test x) (list_any test xs) fails (list_any_from_position test (i + 1) xs (sym (cond-false (test x) (Some i) (position_from test (i + 1) xs) fails) ∙ e))
]

-- an index that is found is within
pub position_from-within : {A : Type 0} (test : A → Bool) (i : ℕ) (xs : List A) (p : ℕ) → position_from test i xs ≡ Some p → (i ≤ p) × (p < i + length xs)
position_from-within test i [] p e = absurd cc
position_from-within test i (x ∷ xs) p e = elim (cases_Bool (test x)) [
  | inl passes ↦ let h : i ≡ p = some_is i p (sym (cond-true (test x) (Some i) (position_from test (i + 1) xs) passes) ∙ e) in (omega arith, omega arith)
  | inr fails ↦ let h = position_from-within test (i + 1) xs p (sym (cond-false (test x) (Some i) (position_from test (i + 1) xs) fails) ∙ e) in (omega arith, omega arith)
]

found_at : {A : Type 0} (test : A → Bool) (i : ℕ) (xs : List A) (p : ℕ) → position_from test i xs ≡ Some (i + p) → (x : A) × (slice_get xs p ≡ Some x) × (test x ≡ true)
found_at test i [] p e = absurd cc
found_at test i (x ∷ xs) zero e = elim (cases_Bool (test x)) [
  | inl passes ↦ (x, refl, passes)
  | inr fails ↦ let h = position_from-within test (i + 1) xs (i + 0) (sym (cond-false (test x) (Some i) (position_from test (i + 1) xs) fails) ∙ e) in absurd (omega arith)
]
found_at test i (x ∷ xs) (suc p) e = elim (cases_Bool (test x)) [
  | inl passes ↦ let h : i ≡ i + suc p = some_is i (i + suc p) (sym (cond-true (test x) (Some i) (position_from test (i + 1) xs) passes) ∙ e) in absurd (omega arith)
  | inr fails ↦ found_at test (i + 1) xs p (sym (cond-false (test x) (Some i) (position_from test (i + 1) xs) fails) ∙ e ∙ ap (λ (n : ℕ). Some n) (omega arith))
]

-- an element that is found passes
pub position_from-found : {A : Type 0} (test : A → Bool) (xs : List A) (p : ℕ) → position_from test 0 xs ≡ Some p → (x : A) × (slice_get xs p ≡ Some x) × (test x ≡ true)
position_from-found test xs p e = found_at test 0 xs p (e ∙ ap (λ (n : ℕ). Some n) (omega arith))

-- an element that is found stays the first
pub position_from-more : {A : Type 0} (test : A → Bool) (i : ℕ) (xs ys : List A) (p : ℕ) → position_from test i xs ≡ Some p → position_from test i (xs ++ ys) ≡ Some p
position_from-more test i [] ys p e = absurd cc
position_from-more test i (x ∷ xs) ys p e = elim (cases_Bool (test x)) [
  | inl passes ↦ cond-true (test x) (Some i) (position_from test (i + 1) (xs ++ ys)) passes ∙ sym (cond-true (test x) (Some i) (position_from test (i + 1) xs) passes) ∙ e
  | inr fails ↦ cond-false (test x) (Some i) (position_from test (i + 1) (xs ++ ys)) fails ∙ position_from-more test (i + 1) xs ys p (sym (cond-false (test x) (Some i) (position_from test (i + 1) xs) fails) ∙ e)
]

-- where none was found, the new last one may be
pub position_from-push : {A : Type 0} (test : A → Bool) (i : ℕ) (xs : List A) (y : A) → position_from test i xs ≡ None → position_from test i (xs ++ y ∷ []) ≡ cond (test y) (Some (i + length xs)) None
position_from-push test i [] y e = ap (λ (n : ℕ). cond (test y) (Some n) None) (omega arith)
position_from-push test i (x ∷ xs) y e = elim (cases_Bool (test x)) [
  | inl passes ↦ absurd (none_is_not_some i (sym e ∙ cond-true (test x) (Some i) (position_from test (i + 1) xs) passes))
  | inr fails ↦
      cond-false (test x) (Some i) (position_from test (i + 1) (xs ++ y ∷ [])) fails
      ∙ position_from-push test (i + 1) xs y (sym (cond-false (test x) (Some i) (position_from test (i + 1) xs) fails) ∙ e)
      ∙ ap (λ (n : ℕ). cond (test y) (Some n) None) (omega arith)
]
