-- Binary search: what it finds, and how often it halves what is left.
use Rattle.std.proofs.Common.{◌≡◌, ◌≢◌, ℕ, ◌+◌, ◌-◌, ◌*◌, ◌^◌, ◌<◌, ◌≤◌, Bool, true, false, cond, List, [], ◌∷◌, length, get_or, refl, sym, ap, subst, ◌∙◌, inl, inr, eqb, arith, Some, None, zero, suc, min}
use Rattle.std.specs.Prelude.{slice_get, nat_lt}
use Rattle.std.specs.List.{position_from}
use Rattle.std.specs.declared.cmp.Ordering.{Ordering}
use Rattle.std.specs.declared.cmp.Ordering.TheVariants.{Less, Equal, Greater}
use Rattle.std.specs.Ordering.{nat_cmp, MatchOrdering}
use Rattle.std.specs.Cmp.{ranks}
use Rattle.std.proofs.lemmas.Option.{slice_get_within, get_or_from_slice_get}
use Rattle.std.proofs.lemmas.Bool.{cases_Bool}
use borrow.Author.Tests.{ltb-true, ltb-false}
use Rattle.std.proofs.lemmas.Bool.Decides.{eqb_tells}
use Rattle.gate_model.proofs.Lists.{none_is_not_some, some_is}
use Rattle.gate_model.specs.Search.{index_by, AreAscendingBy}

-- where what is left is halved, it has a digit less
halved : (size half left : ℕ) → 0 < size → size < 2 ^ left → 2 * half ≤ size → (fewer : ℕ) × (fewer + 1 ≡ left) × (half < 2 ^ fewer)
halved size half zero some fits small = absurd (omega (arith, some, fits))
halved size half (suc fewer) some fits small =
    let doubled : 2 ^ suc fewer ≡ 2 * 2 ^ fewer = grind arith in
    (fewer, omega arith, omega (arith, some, fits, small, doubled))

-- the search so far: all ids before `low` are smaller, all from `high` on are greater, and the steps that are left fit
pub record IsSearching {A : Type 0} (id_of : A → ℕ) (values : List A) (id low high started steps : ℕ) : Type 0 where
  pub inside : (low ≤ high) × (high ≤ length values)
  pub smaller : (index : ℕ) (one : A) → slice_get values index ≡ Some one → index < low → id_of one < id
  pub greater : (index : ℕ) (one : A) → slice_get values index ≡ Some one → high ≤ index → id < id_of one
  pub fits : (digits : ℕ) → length values < 2 ^ digits → (left : ℕ) × (steps + left ≤ started + digits) × (high - low < 2 ^ left)

pub searching-start : {A : Type 0} (id_of : A → ℕ) (values : List A) (id started : ℕ) → IsSearching id_of values id 0 (length values) started started
searching-start id_of values id started = record {
  inside = (omega arith, omega arith);
  smaller = λ index one at lt. absurd (omega arith);
  greater = λ index one at le. let lt : index < length values = slice_get_within values index one at in absurd (omega arith);
  fits = λ digits lt. (digits, omega arith, omega (arith, lt));
}

pub rises : {A : Type 0} (id_of : A → ℕ) (values : List A) → AreAscendingBy id_of values → (index later : ℕ) (one two : A) → slice_get values index ≡ Some one
    → slice_get values later ≡ Some two → index < later → id_of one < id_of two
rises id_of values ascending index later one two at there lt =
    let within : later < length values = slice_get_within values later two there in
    let h : id_of (get_or values index one) < id_of (get_or values later one) = ascending index later one lt within in
    let first : get_or values index one ≡ one = get_or_from_slice_get values index one one at in
    let second : get_or values later one ≡ two = get_or_from_slice_get values later two one there in
    omega (arith, h, ap id_of first, ap id_of second)

-- the id in the middle is too small
pub searching-after : {A : Type 0} (id_of : A → ℕ) (values : List A) (id low high started steps middle : ℕ) (value : A) (counted : ℕ) → AreAscendingBy id_of values
    → IsSearching id_of values id low high started steps → low < high → middle < high → 2 * (high - (middle + 1)) ≤ high - low → slice_get values middle ≡ Some value
    → id_of value < id → counted ≡ min (steps + 1) 4294967295
    → IsSearching id_of values id (middle + 1) high started counted
searching-after {A} id_of values id low high started steps middle value counted ascending search some inner half at smaller counts =
    let before = search.smaller in
    record {
      inside = (omega (arith, inner), search.inside.1);
      smaller = λ index one there lt. elim (eqb_tells index middle) [
        | inl w ↦ same_is index one there w.1
        | inr w ↦ let e : id_of one < id_of value = rises id_of values ascending index middle one value there at (omega (arith, lt, w.1)) in omega (arith, e, smaller)
      ];
      greater = search.greater;
      fits = λ digits lt.
          let f = search.fits digits lt in
          let h = halved (high - low) (high - (middle + 1)) f.0 (omega (arith, some)) f.2 half in
          (h.0, omega (arith, h.1, f.1, counts), h.2);
    }
  where
    same_is : (index : ℕ) (one : A) → slice_get values index ≡ Some one → index ≡ middle → id_of one < id
    same_is index one there e =
        let same : one ≡ value = some_is one value (sym there ∙ ap (slice_get values) e ∙ at) in
        omega (arith, smaller, ap id_of same)

-- the id in the middle is too great
pub searching-before : {A : Type 0} (id_of : A → ℕ) (values : List A) (id low high started steps middle : ℕ) (value : A) (counted : ℕ) → AreAscendingBy id_of values
    → IsSearching id_of values id low high started steps → low < high → middle < high → low ≤ middle → 2 * (middle - low) ≤ high - low → slice_get values middle ≡ Some value
    → id < id_of value → counted ≡ min (steps + 1) 4294967295
    → IsSearching id_of values id low middle started counted
searching-before {A} id_of values id low high started steps middle value counted ascending search some inner outer half at greater counts =
    record {
      inside = (outer, omega (arith, inner, search.inside.1));
      smaller = search.smaller;
      greater = λ index one there le. elim (eqb_tells index middle) [
        | inl w ↦ same_is index one there w.1
        | inr w ↦ let e : id_of value < id_of one = rises id_of values ascending middle index value one at there (omega (arith, le, w.1)) in omega (arith, e, greater)
      ];
      fits = λ digits lt.
          let f = search.fits digits lt in
          let h = halved (high - low) (middle - low) f.0 (omega (arith, some)) f.2 half in
          (h.0, omega (arith, h.1, f.1, counts), h.2);
    }
  where
    same_is : (index : ℕ) (one : A) → slice_get values index ≡ Some one → index ≡ middle → id < id_of one
    same_is index one there e =
        let same : one ≡ value = some_is one value (sym there ∙ ap (slice_get values) e ∙ at) in
        omega (arith, greater, ap id_of same)

-- ---- the answer

pub eqb-apart : (m n : ℕ) → m ≢ n → eqb m n ≡ false
eqb-apart m n apart = elim (eqb_tells m n) [ inl w ↦ absurd (apart w.1) | inr w ↦ w.0 ]

pub eqb-same : (m n : ℕ) → m ≡ n → eqb m n ≡ true
eqb-same m n same = elim (eqb_tells m n) [ inl w ↦ w.0 | inr w ↦ absurd (w.1 same) ]

-- the value has this id
abbrev has : {A : Type 0} → (A → ℕ) → ℕ → A → Bool
has id_of id value = eqb (id_of value) id

missing : {A : Type 0} (id_of : A → ℕ) (id from : ℕ) (values : List A) → ((index : ℕ) (one : A) → slice_get values index ≡ Some one → id_of one ≢ id)
    → position_from (has id_of id) from values ≡ None
missing id_of id from [] none = refl
missing id_of id from (value ∷ values) none =
    ap (λ b. cond b (Some from) (position_from (has id_of id) (from + 1) values)) (eqb-apart (id_of value) id (none 0 value refl))
    ∙ missing id_of id (from + 1) values (λ index one at. none (suc index) one at)

first_at : {A : Type 0} (id_of : A → ℕ) (id from : ℕ) (values : List A) (found : ℕ) (value : A) → slice_get values found ≡ Some value → id_of value ≡ id
    → ((index : ℕ) (one : A) → slice_get values index ≡ Some one → index < found → id_of one ≢ id)
    → position_from (has id_of id) from values ≡ Some (from + found)
first_at id_of id from [] found value at is before = absurd (none_is_not_some value at)
first_at id_of id from (first ∷ values) zero value at is before =
    ap (λ b. cond b (Some from) (position_from (has id_of id) (from + 1) values)) (eqb-same (id_of first) id (ap id_of (some_is first value at) ∙ is))
    ∙ ap (λ (n : ℕ). Some n) (omega arith)
first_at id_of id from (first ∷ values) (suc found) value at is before =
    ap (λ b. cond b (Some from) (position_from (has id_of id) (from + 1) values)) (eqb-apart (id_of first) id (before 0 first refl (omega arith)))
    ∙ first_at id_of id (from + 1) values found value at is (λ index one there lt. before (suc index) one there (omega (arith, lt)))
    ∙ ap (λ (n : ℕ). Some n) (omega arith)

-- nothing is left
pub searched-none : {A : Type 0} (id_of : A → ℕ) (values : List A) (id low high started steps : ℕ) → IsSearching id_of values id low high started steps → high ≤ low
    → None ≡ index_by id_of id values
searched-none id_of values id low high started steps search le =
    sym (missing id_of id 0 values (λ index one at e. apart index low high (id_of one) id (search.smaller index one at) (search.greater index one at) le e))
  where
    apart : (index low high one id : ℕ) → (index < low → one < id) → (high ≤ index → id < one) → high ≤ low → one ≡ id → ⊥
    apart index low high one id smaller greater le e = elim (cases_Bool (nat_lt index low)) [
      | inl p ↦ let lt : one < id = smaller (ltb-true index low p) in omega (arith, lt, e)
      | inr p ↦ let ge : low ≤ index = ltb-false index low p in let lt : id < one = greater (omega (arith, ge, le)) in omega (arith, lt, e)
    ]

pub searched-some : {A : Type 0} (id_of : A → ℕ) (values : List A) (id middle : ℕ) (value : A) → AreAscendingBy id_of values → slice_get values middle ≡ Some value
    → id_of value ≡ id → Some middle ≡ index_by id_of id values
searched-some id_of values id middle value ascending at is =
    sym (first_at id_of id 0 values middle value at is
    (λ index one there lt e. let h : id_of one < id_of value = rises id_of values ascending index middle one value there at lt in absurd (omega (arith, h, e, is)))
    ∙ ap (λ (n : ℕ). Some n) (omega arith))

-- the steps that were made are within the digits
pub within_digits : {A : Type 0} (id_of : A → ℕ) (values : List A) (id low high started steps : ℕ) → IsSearching id_of values id low high started steps
    → (digits : ℕ) → length values < 2 ^ digits → steps ≤ started + digits
within_digits id_of values id low high started steps search digits lt = let f = search.fits digits lt in omega (arith, f.1)

-- and so are those with one more, while something is left
pub within_digits-more : {A : Type 0} (id_of : A → ℕ) (values : List A) (id low high started steps counted : ℕ) → IsSearching id_of values id low high started steps
    → low < high → counted ≡ min (steps + 1) 4294967295 → (digits : ℕ) → length values < 2 ^ digits → counted ≤ started + digits
within_digits-more id_of values id low high started steps counted search some counts digits lt =
    let f = search.fits digits lt in
    let h = halved (high - low) 0 f.0 (omega (arith, some)) f.2 (omega arith) in
    omega (arith, f.1, h.1, counts)

-- what follows from an order

pub less : (one id : ℕ) → nat_cmp one id ≡ Less → one < id
less one id e = let P : Ordering → Type 0 = λ order. MatchOrdering order (one < id) (one ≡ id) (id < one) in subst P e (ranks one id)

pub equal : (one id : ℕ) → nat_cmp one id ≡ Equal → one ≡ id
equal one id e = let P : Ordering → Type 0 = λ order. MatchOrdering order (one < id) (one ≡ id) (id < one) in subst P e (ranks one id)

pub more : (one id : ℕ) → nat_cmp one id ≡ Greater → id < one
more one id e = let P : Ordering → Type 0 = λ order. MatchOrdering order (one < id) (one ≡ id) (id < one) in subst P e (ranks one id)
