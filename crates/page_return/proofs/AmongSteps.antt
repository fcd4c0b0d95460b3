-- No row is missing exactly where each stands among the shown ones, in order.
use Rattle.std.proofs.Common.{◌≡◌, ◌↔◌, inl, inr, ℕ, ◌+◌, Bool, false, List, [], ◌∷◌, Option, Some, None, refl, sym, ap, subst, ◌∙◌}
use Rattle.std.proofs.lemmas.Bool.{cases_Bool, cond-true, cond-false, false≢true}
use Rattle.status_reading.specs.declared.page.StatusPage.{StatusPage}
use Rattle.page_return.specs.declared.comparing.Missing.{Missing}
use Rattle.page_return.specs.Again.{is_same_object, is_same_comment, is_same_downtime}
use Rattle.page_return.specs.Missing.{after_same, missing_from, missing_objects, missing_comments, missing_downtimes, IsNone, AreAmong, IsShownAgain}

module _ {A : Type 0} (same : A → A → Bool) where
  -- rows that stand among these stand among more
  among_more : (rows : List A) (one : A) (others : List A) → AreAmong same rows others → AreAmong same rows (one ∷ others)
  among_more [] one others are = tt
  among_more (row ∷ rows) one others are = inr are

  -- a row and others stand among these exactly where the others stand after the first that is the same
  among_after : (row : A) (rows shown rest : List A) → after_same same row shown ≡ Some rest → AreAmong same rows rest → AreAmong same (row ∷ rows) shown
  among_after row rows [] rest found are = cc
  among_after row rows (one ∷ others) rest found are =
      elim (cases_Bool (same row one)) [
        | inl is ↦
            let taken : Some others ≡ Some rest = sym (cond-true _ _ _ is) ∙ found in
            let rest_is : others ≡ rest = cc in
            inl (is, subst (AreAmong same rows) (sym rest_is) are)
        | inr isnt ↦ inr (among_after row rows others rest (sym (cond-false _ _ _ isnt) ∙ found) are)
      ]

  -- the rows after a row stand among fewer
  after_among : (row : A) (rows shown : List A) → AreAmong same (row ∷ rows) shown → AreAmong same rows shown
  after_among row rows [] are = absurd are
  after_among row rows (one ∷ others) (inl both) = among_more rows one others both.1
  after_among row rows (one ∷ others) (inr are) = among_more rows one others (after_among row rows others are)

  later : (row : A) (rows : List A) (one : A) (others : List A) → AreAmong same (row ∷ rows) (one ∷ others) → AreAmong same rows others
  later row rows one others (inl both) = both.1
  later row rows one others (inr are) = after_among row rows others are

  not_here : (row : A) (rows : List A) (one : A) (others : List A) → same row one ≡ false → AreAmong same (row ∷ rows) (one ∷ others)
      → AreAmong same (row ∷ rows) others
  not_here row rows one others isnt (inl both) = absurd (false≢true (sym isnt ∙ both.0))
  not_here row rows one others isnt (inr are) = are

  -- a row that stands among these is found, and the others stand after it
  found_among : (row : A) (rows shown : List A) → AreAmong same (row ∷ rows) shown
      → (rest : List A) × (after_same same row shown ≡ Some rest) × AreAmong same rows rest
  found_among row rows [] are = absurd are
  found_among row rows (one ∷ others) are =
      elim (cases_Bool (same row one)) [
        | inl is ↦ (others, cond-true _ _ _ is, later row rows one others are)
        | inr isnt ↦
            let found = found_among row rows others (not_here row rows one others isnt are) in
            (found.0, cond-false _ _ _ isnt ∙ found.1, found.2)
      ]

  -- ---- none is missing

  -- what is missing of a row and others, by what stands after the first that is the same
  step : ℕ → List A → List A → Option (List A) → List ℕ
  step index rows shown None = index ∷ missing_from same (index + 1) rows shown
  step index rows shown (Some rest) = missing_from same (index + 1) rows rest

  stepped : (index : ℕ) (row : A) (rows shown : List A) → missing_from same index (row ∷ rows) shown ≡ step index rows shown (after_same same row shown)
  unfolding step
  stepped index row rows shown = elim (after_same same row shown) as (λ found. elim found [
    | None ↦ index ∷ missing_from same (index + 1) rows shown
    | Some rest ↦ missing_from same (index + 1) rows rest
  ] ≡ step index rows shown found) [ None ↦ refl | Some rest ↦ refl ]

  none_then : (index : ℕ) (rows shown : List A) (row : A) (found : Option (List A)) → after_same same row shown ≡ found → step index rows shown found ≡ []
      → ((rest : List A) → missing_from same (index + 1) rows rest ≡ [] → AreAmong same rows rest) → AreAmong same (row ∷ rows) shown
  unfolding step
  none_then index rows shown row None is none more = cc
  none_then index rows shown row (Some rest) is none more = among_after row rows shown rest is (more rest none)

  pub none_missing : (index : ℕ) (rows shown : List A) → missing_from same index rows shown ≡ [] → AreAmong same rows shown
  none_missing index [] shown none = tt
  none_missing index (row ∷ rows) shown none =
      none_then index rows shown row (after_same same row shown) refl (sym (stepped index row rows shown) ∙ none) (none_missing (index + 1) rows)

  pub among_none : (index : ℕ) (rows shown : List A) → AreAmong same rows shown → missing_from same index rows shown ≡ []
  unfolding step
  among_none index [] shown are = refl
  among_none index (row ∷ rows) shown are =
      let found = found_among row rows shown are in
      stepped index row rows shown ∙ ap (step index rows shown) found.1 ∙ among_none (index + 1) rows found.0 found.2

-- none of what was found is missing exactly where the page shows all of it again
pub all_again : (kept shown : StatusPage) (found : Missing) → found.objects.items ≡ missing_objects kept shown
    → found.comments.items ≡ missing_comments kept shown → found.downtimes.items ≡ missing_downtimes kept shown
    → IsNone found ↔ IsShownAgain kept shown
all_again kept shown found objects comments downtimes = (
  λ none. record {
    objects = none_missing is_same_object 0 kept.objects.items shown.objects.items (sym objects ∙ none.objects);
    comments = none_missing is_same_comment 0 kept.comments.items shown.comments.items (sym comments ∙ none.comments);
    downtimes = none_missing is_same_downtime 0 kept.downtimes.items shown.downtimes.items (sym downtimes ∙ none.downtimes);
  },
  λ again. record {
    objects = objects ∙ among_none is_same_object 0 kept.objects.items shown.objects.items again.objects;
    comments = comments ∙ among_none is_same_comment 0 kept.comments.items shown.comments.items again.comments;
    downtimes = downtimes ∙ among_none is_same_downtime 0 kept.downtimes.items shown.downtimes.items again.downtimes;
  },
)
