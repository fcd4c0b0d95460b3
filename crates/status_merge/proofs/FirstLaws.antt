-- The first rows: no two are the same, and each row is the same as one.
use Rattle.std.proofs.Common.{◌≡◌, List, [], ◌∷◌, ◌++◌, Bool, true, false, ◌||◌, refl, sym, ◌∙◌, ap, map, arith, inl, inr, subst}
use Rattle.std.proofs.lemmas.Bool.{cases_Bool}
use Rattle.std.specs.Cmp.{IsEquivalence}
use Rattle.std.specs.List.{AllByRecursion, Contains, IsDistinct, list_any}
use Rattle.std.proofs.lemmas.List.Elements.{Contains-append_left, Contains-append_right, Contains-push}
use Rattle.std.proofs.lemmas.List.Folds.{list_any-append}
use Rattle.std.proofs.lemmas.Map.Keys.{IsDistinct-cons, IsDistinct-from_apart, IsDistinct-head, IsDistinct-tail}
use Rattle.itertools.specs.Consumer.{firsts_from}

pub weaker : {R : Type 0} (P Q : R → Type 0) → ((row : R) → P row → Q row) → (rows : List R) → AllByRecursion P rows → AllByRecursion Q rows
weaker P Q more [] all = tt
weaker P Q more (row ∷ rows) all = (more row all.0, weaker P Q more rows all.1)

pub or_parts : (one other : Bool) → (one || other) ≡ false → (one ≡ false) × (other ≡ false)
or_parts true other e = cc
or_parts false other e = (refl, e)

or_new : (before here after : Bool) → ((before || (here || false)) || after) ≡ true → (before || (here || after)) ≡ true
or_new true here after e = refl
or_new false true after e = refl
or_new false false after e = e

or_seen : (before here after : Bool) → (here ≡ true → before ≡ true) → ((before || (here || false)) || after) ≡ true → (before || after) ≡ true
or_seen true here after seen e = refl
or_seen false true after seen e = let no : false ≡ true = seen refl in cc
or_seen false false after seen e = e

module _ {R : Type 0} (same : R → R → Bool) where
  -- whether one of the rows is the same as this one
  abbrev pub has_like : List R → R → Bool
  has_like rows row = list_any (λ other. same other row) rows

  pub has_like-more : (before : List R) (next row : R) → has_like (before ++ next ∷ []) row ≡ (has_like before row || (same next row || false))
  has_like-more before next row = list_any-append (λ other. same other row) before (next ∷ [])

  -- the first rows are the same as none before them
  fresh : (before rows : List R) → AllByRecursion (λ row. has_like before row ≡ false) (firsts_from same before rows)
  fresh before [] = tt
  fresh before (next ∷ rows) =
      let rest : AllByRecursion (λ row. has_like before row ≡ false) (firsts_from same (before ++ next ∷ []) rows) =
      weaker _ _ (λ row none. (or_parts _ _ (sym (has_like-more before next row) ∙ none)).0) _ (fresh (before ++ next ∷ []) rows) in
      elim (cases_Bool (has_like before next)) [
        | inl seen ↦ rw seen rest
        | inr new ↦ rw new (new, rest)
      ]

  none-distinct : IsDistinct same []
  none-distinct = IsDistinct-from_apart same [] (λ i j d before below. absurd (omega arith))

  -- no two first rows are the same
  pub firsts-distinct : (before rows : List R) → IsDistinct same (firsts_from same before rows)
  firsts-distinct before [] = none-distinct
  firsts-distinct before (next ∷ rows) =
      let apart : AllByRecursion (λ row. same next row ≡ false) (firsts_from same (before ++ next ∷ []) rows) =
      weaker _ _
      (λ row none. (or_parts _ _ (or_parts _ _ (sym (has_like-more before next row) ∙ none)).1).0)
      _
      (fresh (before ++ next ∷ []) rows) in
      let rest = firsts-distinct (before ++ next ∷ []) rows in
      elim (cases_Bool (has_like before next)) [
        | inl seen ↦ rw seen rest
        | inr new ↦ rw new (IsDistinct-cons same next _ apart rest)
      ]

  -- the first rows are among the rows
  pub firsts-among : (before rows : List R) → AllByRecursion (Contains rows) (firsts_from same before rows)
  firsts-among before [] = tt
  firsts-among before (next ∷ rows) =
      let rest : AllByRecursion (Contains (next ∷ rows)) (firsts_from same (before ++ next ∷ []) rows) =
      weaker _ _ (λ row is. Contains-append_right (next ∷ []) rows row is) _ (firsts-among (before ++ next ∷ []) rows) in
      elim (cases_Bool (has_like before next)) [
        | inl seen ↦ rw seen rest
        | inr new ↦ rw new (Contains-append_left (next ∷ []) rows next (Contains-push [] next), rest)
      ]

module _ {R : Type 0} {same : R → R → Bool} (laws : IsEquivalence same) where
  -- what is the same as a row is the same as one that is the same
  pub like : (one other row : R) → same one other ≡ true → same row one ≡ same row other
  like one other row e = laws.symm row one ∙ laws.congr one other row e ∙ laws.symm other row

  pub has_like-same : (rows : List R) (one other : R) → same one other ≡ true → has_like same rows one ≡ has_like same rows other
  has_like-same [] one other e = refl
  has_like-same (row ∷ rows) one other e = rw (like one other row e, has_like-same rows one other e) refl

  -- each row is the same as one before it or as a first row
  pub firsts-whole : (before rows : List R) → AllByRecursion (λ row. (has_like same before row || has_like same (firsts_from same before rows) row) ≡ true) rows
  firsts-whole before [] = tt
  firsts-whole before (next ∷ rows) =
      let later = firsts_from same (before ++ next ∷ []) rows in
      let rest = firsts-whole (before ++ next ∷ []) rows in
      let shift : (row : R) → (has_like same (before ++ next ∷ []) row || has_like same later row) ≡ true → ((has_like same before row || (same next row || false)) || has_like same later row) ≡ true =
      λ row e. ap (λ b. b || has_like same later row) (sym (has_like-more same before next row)) ∙ e in
      elim (cases_Bool (has_like same before next)) [
        | inl seen ↦
            let whole : AllByRecursion (λ row. (has_like same before row || has_like same later row) ≡ true) rows =
            weaker _ _ (λ row is. or_seen (has_like same before row) (same next row) _ (λ hit. sym (has_like-same before next row hit) ∙ seen) (shift row is)) rows rest in
            let is : firsts_from same before (next ∷ rows) ≡ later = rw seen refl in
            subst (λ (firsts : List R). AllByRecursion (λ row. (has_like same before row || has_like same firsts row) ≡ true) (next ∷ rows)) (sym is) (rw seen refl, whole)
        | inr new ↦
            let whole : AllByRecursion (λ row. (has_like same before row || has_like same (next ∷ later) row) ≡ true) rows =
            weaker _ _ (λ row is. or_new (has_like same before row) (same next row) _ (shift row is)) rows rest in
            let is : firsts_from same before (next ∷ rows) ≡ next ∷ later = rw new refl in
            subst (λ (firsts : List R). AllByRecursion (λ row. (has_like same before row || has_like same firsts row) ≡ true) (next ∷ rows)) (sym is) (rw (new, laws.refl next) refl, whole)
      ]

  -- ---- a row of each group in place of its first row

  module _ (pick : R → R) where
    apart_from : (one : R) (rows : List R) → AllByRecursion (λ row. same (pick row) row ≡ true) rows → AllByRecursion (λ row. same one row ≡ false) rows → same (pick one) one ≡ true → AllByRecursion (λ row. same (pick one) row ≡ false) (map pick rows)
    apart_from one [] picked apart here = tt
    apart_from one (row ∷ rows) picked apart here =
        (laws.congr (pick one) one (pick row) here ∙ like (pick row) row one picked.0 ∙ apart.0, apart_from one rows picked.1 apart.1 here)

    pub picked-distinct : (rows : List R) → AllByRecursion (λ row. same (pick row) row ≡ true) rows → IsDistinct same rows → IsDistinct same (map pick rows)
    picked-distinct [] picked distinct = none-distinct same
    picked-distinct (row ∷ rows) picked distinct =
        IsDistinct-cons same (pick row) (map pick rows)
        (apart_from row rows picked.1 (IsDistinct-head same row rows distinct) picked.0)
        (picked-distinct rows picked.1 (IsDistinct-tail same row rows distinct))

    pub picked-whole : (row : R) (rows : List R) → AllByRecursion (λ row. same (pick row) row ≡ true) rows → has_like same rows row ≡ list_any (same row) (map pick rows)
    picked-whole row [] picked = refl
    picked-whole row (next ∷ rows) picked =
        rw (laws.symm next row, ← like (pick next) next row picked.0, picked-whole row rows picked.1) refl
