-- The row of an id among those that a page shows, and the comment or the entry of that id.
use Rattle.std.proofs.Common.{◌≡◌, ℕ, ◌+◌, ◌<◌, ◌==◌, ◌&&◌, ◌||◌, Bool, true, false, not, List, [], ◌∷◌, filter, reverse, Option, Some, None, inl, inr, refl, sym, ap, ◌∙◌, arith}
use Rattle.std.specs.Prelude.{find, if◌then◌else◌}
use Rattle.std.specs.List.{list_any}
use Rattle.std.specs.Option.{option_or}
use Rattle.std.proofs.lemmas.Bool.{cases_Bool, cond-false, false≢true, eqb-true, ne_eqb}
use Rattle.std.proofs.lemmas.List.{reverse-append}
use Rattle.std.proofs.lemmas.Map.Views.{any-filter_same}
use Rattle.std.proofs.lemmas.List.Folds.{find-append, list_any-append}
use Rattle.gate_model.specs.declared.downtime.Entry.{Entry}
use Rattle.gate_model.specs.Downtime.{is_live_in, is_deleted_in, is_before, over_in}
use Rattle.status_reading.proofs.IdSteps.{Ascend}

-- ---- the one of an id in a list with ids that ascend

module _ {A : Type 0} (id_of : A → ℕ) (kept : A → Bool) (id : ℕ) where
  abbrev pub is_one : A → Bool
  is_one one = (id_of one == id) && kept one

  chosen_none : (test : Bool) (one : A) (rest : Option A) → test ≡ false → rest ≡ None → (if test then Some one else rest) ≡ None
  chosen_none test one rest fails none = ap (λ (holds : Bool). if holds then Some one else rest) fails ∙ none

  -- there is none above it
  none_above : (last : ℕ) (list : List A) → id < last + 1 → Ascend id_of last list → find is_one list ≡ None
  none_above last [] low all = refl
  none_above last (one ∷ list) low all =
      chosen_none (is_one one) one (find is_one list)
      (ap (λ (same : Bool). same && kept one) (ne_eqb (id_of one) id (λ same. omega (arith, same, low, all.0))))
      (none_above (id_of one) list (omega (arith, low, all.0)) all.1)

  last_one : (same more : Bool) (one : A) (rest : Option A) → (same ≡ true → rest ≡ None)
      → option_or rest (if same && more then Some one else None) ≡ (if same && more then Some one else rest)
  last_one true true one rest none = ap (λ (found : Option A). option_or found (Some one)) (none refl)
  last_one true false one None none = refl
  last_one true false one (Some first) none = refl
  last_one false more one None none = refl
  last_one false more one (Some first) none = refl

  -- the first is the last
  pub find_reverse : (last : ℕ) (list : List A) → Ascend id_of last list → find is_one (reverse list) ≡ find is_one list
  find_reverse last [] all = refl
  find_reverse last (one ∷ list) all =
      ap (find is_one) (reverse-append (one ∷ []) list)
      ∙ find-append is_one (reverse list) (one ∷ [])
      ∙ ap (λ (found : Option A). option_or found (if is_one one then Some one else None)) (find_reverse (id_of one) list all.1)
      ∙ last_one (id_of one == id) (kept one) one (find is_one list)
      (λ same. none_above (id_of one) list (omega (arith, eqb-true (id_of one) id same)) all.1)

  filtered : (same more : Bool) (one : A) (rest : List A) → same ≡ (id_of one == id)
      → find (λ other. id_of other == id) (if more then one ∷ rest else rest)
      ≡ (if same && more then Some one else find (λ other. id_of other == id) rest)
  filtered true true one rest is = ap (λ (test : Bool). if test then Some one else find (λ other. id_of other == id) rest) (sym is)
  filtered false true one rest is = ap (λ (test : Bool). if test then Some one else find (λ other. id_of other == id) rest) (sym is)
  filtered true false one rest is = refl
  filtered false false one rest is = refl

  -- among those that are kept it is the one that is kept
  pub find_filter : (list : List A) → find (λ one. id_of one == id) (filter kept list) ≡ find is_one list
  find_filter [] = refl
  find_filter (one ∷ list) =
      filtered (id_of one == id) (kept one) one (filter kept list) refl
      ∙ ap (λ (found : Option A). if is_one one then Some one else found) (find_filter list)

-- ---- whether there is one

module _ {A : Type 0} (id_of : A → ℕ) (id : ℕ) where
  abbrev pub has : List A → Bool
  has list = list_any (λ one. id_of one == id) list

  or_turned : (one rest : Bool) → (rest || (one || false)) ≡ (one || rest)
  or_turned true true = refl
  or_turned true false = refl
  or_turned false true = refl
  or_turned false false = refl

  pub has_reverse : (list : List A) → has (reverse list) ≡ has list
  has_reverse [] = refl
  has_reverse (one ∷ list) =
      ap has (reverse-append (one ∷ []) list)
      ∙ list_any-append (λ other. id_of other == id) (reverse list) (one ∷ [])
      ∙ ap (λ (rest : Bool). rest || ((id_of one == id) || false)) (has_reverse list)
      ∙ or_turned (id_of one == id) (has list)

  pub has_kept : (live : ℕ → Bool) (list : List A) → has (filter (λ one. live (id_of one)) list) ≡ (live id && has list)
  has_kept live list =
      any-filter_same (λ one. id_of one == id) (λ one. live (id_of one)) (live id) (λ one same. ap live (eqb-true (id_of one) id same)) list

-- ---- a live entry is one of the entries

over_none : (entries : List Entry) (id : ℕ) → has (λ (one : Entry). one.scheduled.id) id entries ≡ false → over_in entries id ≡ None
over_none [] id none = refl
over_none (entry ∷ older) id none = elim (cases_Bool (entry.scheduled.id == id)) [
  | inl same ↦ absurd (false≢true (sym none ∙ ap (λ (test : Bool). test || has (λ (one : Entry). one.scheduled.id) id older) same))
  | inr apart ↦
      cond-false (entry.scheduled.id == id) _ (over_in older id) apart
      ∙ over_none older id (sym (ap (λ (test : Bool). test || has (λ (one : Entry). one.scheduled.id) id older) apart) ∙ none)
]

pub live_there : (entries : List Entry) (moment id : ℕ)
    → (is_live_in entries moment id && has (λ (one : Entry). one.scheduled.id) id entries) ≡ is_live_in entries moment id
live_there entries moment id = elim (cases_Bool (has (λ (one : Entry). one.scheduled.id) id entries)) [
  | inl there ↦ ap (λ (test : Bool). is_live_in entries moment id && test) there ∙ and_true (is_live_in entries moment id)
  | inr none ↦
      let dead : is_live_in entries moment id ≡ false =
      ap (λ (over : Option ℕ). not (is_deleted_in entries id) && is_before moment over) (over_none entries id none)
      ∙ and_false (not (is_deleted_in entries id)) in
      ap (λ (test : Bool). test && has (λ (one : Entry). one.scheduled.id) id entries) dead ∙ sym dead
]
  where
    and_true : (test : Bool) → (test && true) ≡ test
    and_true true = refl
    and_true false = refl

    and_false : (test : Bool) → (test && false) ≡ false
    and_false true = refl
    and_false false = refl
