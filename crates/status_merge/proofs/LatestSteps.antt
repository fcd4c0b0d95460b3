-- The row that a pass over the rows keeps is the first than which none has a younger result.
use Rattle.std.proofs.Common.{◌≡◌, ℕ, List, [], ◌∷◌, Bool, true, false, not, ◌&&◌, if◌then◌else◌, Option, Some, None, refl, sym, ◌∙◌, ap, arith, inl, inr, find}
use Rattle.std.specs.List.{list_all}
use Rattle.std.proofs.lemmas.Bool.{cases_Bool}
use Rattle.std.proofs.lemmas.Bool.Decides.{nat_tests}
use Rattle.status_merge.specs.declared.gateway.MergedObject.{MergedObject}
use Rattle.status_merge.specs.Objects.{counted_age, is_younger, is_latest}

-- the row that is kept after a pass
abbrev pub kept : Option MergedObject → List MergedObject → Option MergedObject
kept known [] = known
kept None (row ∷ rows) = kept (Some row) rows
kept (Some known) (row ∷ rows) = kept (Some (if is_younger (counted_age row) (counted_age known) then row else known)) rows

-- ---- the order of ages

never_later : (one : Option ℕ) → is_younger one one ≡ false
never_later None = refl
never_later (Some one) = grind (arith, nat_tests)

-- what the younger one is not younger than, the older one is not younger than
later_covers : (one other row : Option ℕ) → is_younger one other ≡ true → (not (is_younger other row) && not (is_younger one row)) ≡ not (is_younger one row)
later_covers None other row later = cc
later_covers (Some one) None row later = refl
later_covers (Some one) (Some other) None later = refl
later_covers (Some one) (Some other) (Some row) later = grind (arith, nat_tests, later)

earlier_covered : (one other row : Option ℕ) (rest : Bool) → is_younger one other ≡ false → (not (is_younger other row) && (not (is_younger one row) && rest)) ≡ (not (is_younger other row) && rest)
earlier_covered None other row rest earlier = refl
earlier_covered (Some one) None row rest earlier = cc
earlier_covered (Some one) (Some other) None rest earlier = refl
earlier_covered (Some one) (Some other) (Some row) rest earlier = grind (arith, nat_tests, earlier)

same_moment : (one other : Option ℕ) → is_younger one other ≡ false → is_younger other one ≡ false → one ≡ other
same_moment None None earlier late = refl
same_moment None (Some other) earlier late = cc
same_moment (Some one) None earlier late = cc
same_moment (Some one) (Some other) earlier late =
    let equal : one ≡ other = grind (arith, nat_tests, earlier, late) in cc

-- ---- the first row that passes a test

find-same : (one other : MergedObject → Bool) → ((row : MergedObject) → one row ≡ other row) → (rows : List MergedObject) → find one rows ≡ find other rows
find-same one other same [] = refl
find-same one other same (row ∷ rows) = rw (same row, find-same one other same rows) refl

and-parts : (one other : Bool) → one && other ≡ true → (one ≡ true) × (other ≡ true)
and-parts true true e = (refl, refl)
and-parts true false e = cc
and-parts false other e = cc

and-first : (one other rest : Bool) → (one && other) ≡ other → (one && (other && rest)) ≡ (other && rest)
and-first true other rest e = refl
and-first false true rest e = cc
and-first false false rest e = refl

not_true : (test : Bool) → not test ≡ true → test ≡ false
not_true true e = cc
not_true false e = refl

skip_first : (test : MergedObject → Bool) (known : MergedObject) (rows : List MergedObject) → test known ≡ false → find test rows ≡ find test (known ∷ rows)
skip_first test known rows fails = rw fails refl

skip_next : (test : MergedObject → Bool) (known row : MergedObject) (rows : List MergedObject) → (test known ≡ false → test row ≡ false) → find test (known ∷ rows) ≡ find test (known ∷ row ∷ rows)
skip_next test known row rows fails = elim (cases_Bool (test known)) [
  | inl passes ↦ rw passes refl
  | inr not_here ↦ rw (not_here, fails not_here) refl
]

-- where a row does not pass, an earlier one does not
fails_too : (known row : MergedObject) (rows : List MergedObject) → is_younger (counted_age row) (counted_age known) ≡ false → is_latest (known ∷ rows) known ≡ false → is_latest (known ∷ rows) row ≡ false
fails_too known row rows earlier fails = elim (cases_Bool (is_latest (known ∷ rows) row)) [
  | inl passes ↦
      let parts = and-parts (not (is_younger (counted_age known) (counted_age row))) (is_latest rows row) passes in
      let equal = same_moment (counted_age row) (counted_age known) earlier (not_true _ parts.0) in
      let same : is_latest rows row ≡ is_latest rows known = ap (λ last. list_all (λ (other : MergedObject). not (is_younger (counted_age other) last)) rows) equal in
      let passes_too : is_latest (known ∷ rows) known ≡ true = rw (never_later (counted_age known)) (sym same ∙ parts.1) in
      cc
  | inr fails_here ↦ fails_here
]

kept_from : (known : MergedObject) (rows : List MergedObject) → kept (Some known) rows ≡ find (is_latest (known ∷ rows)) (known ∷ rows)
kept_from known [] = rw (never_later (counted_age known)) refl
kept_from known (row ∷ rows) = elim (cases_Bool (is_younger (counted_age row) (counted_age known))) [
  | inl later ↦
      let same : (other : MergedObject) → is_latest (known ∷ row ∷ rows) other ≡ is_latest (row ∷ rows) other =
      λ other. and-first _ _ (is_latest rows other) (later_covers (counted_age row) (counted_age known) (counted_age other) later) in
      let fails : is_latest (known ∷ row ∷ rows) known ≡ false = rw (never_later (counted_age known), later) refl in
      ap (λ (b : Bool). kept (Some (if b then row else known)) rows) later
      ∙ (kept_from row rows
      ∙ (sym (find-same _ _ same (row ∷ rows)) ∙ skip_first (is_latest (known ∷ row ∷ rows)) known (row ∷ rows) fails))
  | inr earlier ↦
      let same : (other : MergedObject) → is_latest (known ∷ row ∷ rows) other ≡ is_latest (known ∷ rows) other =
      λ other. earlier_covered (counted_age row) (counted_age known) (counted_age other) (is_latest rows other) earlier in
      ap (λ (b : Bool). kept (Some (if b then row else known)) rows) earlier
      ∙ (kept_from known rows
      ∙ (skip_next (is_latest (known ∷ rows)) known row rows (fails_too known row rows earlier)
      ∙ sym (find-same _ _ same (known ∷ row ∷ rows))))
]

pub kept-latest : (rows : List MergedObject) → kept None rows ≡ find (is_latest rows) rows
kept-latest [] = refl
kept-latest (row ∷ rows) = kept_from row rows
