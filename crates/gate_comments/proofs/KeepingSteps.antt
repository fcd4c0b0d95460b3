-- Ids that ascend, when comments are added or removed.
use Rattle.std.proofs.Common.{◌≡◌, ◌≢◌, ℕ, ◌+◌, ◌<◌, ◌≤◌, Bool, true, false, cond, not, List, [], ◌∷◌, ◌++◌, length, take, drop, get_or, refl, sym, ap, subst, ◌∙◌, ◌^◌, inl, inr, eqb, arith, Some, zero, suc}
use Rattle.std.specs.Prelude.{filter, slice_get}
use Rattle.std.specs.List.{remove}
use Rattle.std.proofs.lemmas.Bool.Decides.{eqb_tells}
use Rattle.gate_model.specs.declared.comments.Comment.{Comment}
use Rattle.gate_model.specs.declared.comments.CommentEvent.{CommentEvent}
use Rattle.gate_model.specs.declared.comments.CommentEvent.TheVariants.{Delete}
use Rattle.gate_model.specs.Comments.{removes}
use Rattle.gate_model.specs.Meaning.{outlives}
use Rattle.gate_comments.specs.Book.{without, with_live}
use Rattle.gate_comments.specs.Search.{IsAscending}
use Rattle.gate_comments.specs.inner.Counts.{IsCounted}
use Rattle.gate_comments.specs.inner.Keeping.{AreBetween, IsKept}

-- there are no more comments than ids
pub few : (low high : ℕ) (comments : List Comment) → AreBetween low high comments → low + length comments ≤ high
few low high [] h = omega (arith, h)
few low high (comment ∷ comments) h = omega (arith, h.0, few (comment.id + 1) high comments h.1)

lower : (low above high : ℕ) (comments : List Comment) → low ≤ above → AreBetween above high comments → AreBetween low high comments
lower low above high [] le h = omega (arith, le, h)
lower low above high (comment ∷ comments) le h = (omega (arith, le, h.0), h.1)

pub between-push : (low high : ℕ) (comments : List Comment) (comment : Comment) → comment.id ≡ high → AreBetween low high comments
    → AreBetween low (high + 1) (comments ++ comment ∷ [])
between-push low high [] comment is h = (omega (arith, is, h), omega (arith, is))
between-push low high (first ∷ comments) comment is h = (h.0, between-push (first.id + 1) high comments comment is h.1)

pub between-filter : (p : Comment → Bool) (low high : ℕ) (comments : List Comment) → AreBetween low high comments → AreBetween low high (filter p comments)
between-filter p low high [] h = h
between-filter p low high (comment ∷ comments) h = split (p comment) h.0 (between-filter p (comment.id + 1) high comments h.1)
  where
    split : (b : Bool) → low ≤ comment.id → AreBetween (comment.id + 1) high (filter p comments)
        → AreBetween low high (cond b (comment ∷ filter p comments) (filter p comments))
    split true le rest = (le, rest)
    split false le rest = lower low (comment.id + 1) high (filter p comments) (omega (arith, le)) rest

pub length-without : (p : Comment → Bool) (comments : List Comment) → length (filter p comments) ≤ length comments
length-without p [] = omega arith
length-without p (comment ∷ comments) = split (p comment) (length-without p comments)
  where
    split : (b : Bool) → length (filter p comments) ≤ length comments → length (cond b (comment ∷ filter p comments) (filter p comments)) ≤ length (comment ∷ comments)
    split true h = omega (arith, h)
    split false h = omega (arith, h)

above : (low high : ℕ) (comments : List Comment) → AreBetween low high comments → (index : ℕ) (one : Comment) → index < length comments → low ≤ (get_or comments index one).id
above low high [] h index one within = absurd (omega arith)
above low high (comment ∷ comments) h zero one within = h.0
above low high (comment ∷ comments) h (suc index) one within =
    let rest : comment.id + 1 ≤ (get_or comments index one).id = above (comment.id + 1) high comments h.1 index one (omega (arith, within)) in
    omega (arith, h.0, rest)

ascending_at : (low high : ℕ) (comments : List Comment) → AreBetween low high comments → (index later : ℕ) (one : Comment) → index < later → later < length comments
    → (get_or comments index one).id < (get_or comments later one).id
ascending_at low high [] h index later one before within = absurd (omega arith)
ascending_at low high (comment ∷ comments) h zero zero one before within = absurd (omega (arith, before))
ascending_at low high (comment ∷ comments) h zero (suc later) one before within =
    let rest : comment.id + 1 ≤ (get_or comments later one).id = above (comment.id + 1) high comments h.1 later one (omega (arith, within)) in
    omega (arith, rest)
ascending_at low high (comment ∷ comments) h (suc index) zero one before within = absurd (omega (arith, before))
ascending_at low high (comment ∷ comments) h (suc index) (suc later) one before within =
    ascending_at (comment.id + 1) high comments h.1 index later one (omega (arith, before)) (omega (arith, within))

pub ascending : (low high : ℕ) (comments : List Comment) → AreBetween low high comments → IsAscending comments
ascending low high comments h = λ index later one before within. ascending_at low high comments h index later one before within

-- ---- a deletion by an index

eqb-apart : (m n : ℕ) → m ≢ n → eqb m n ≡ false
eqb-apart m n apart = elim (eqb_tells m n) [ inl w ↦ absurd (apart w.1) | inr w ↦ w.0 ]

eqb-same : (m n : ℕ) → m ≡ n → eqb m n ≡ true
eqb-same m n same = elim (eqb_tells m n) [ inl w ↦ w.0 | inr w ↦ absurd (w.1 same) ]

-- all ids are higher than this one
none_has : (id low high : ℕ) (comments : List Comment) → id < low → AreBetween low high comments → without (Delete id) comments ≡ comments
none_has id low high [] lt h = refl
none_has id low high (comment ∷ comments) lt h =
    ap (λ b. cond (not b) (comment ∷ without (Delete id) comments) (without (Delete id) comments)) (eqb-apart comment.id id (λ e. absurd (omega (arith, e, lt, h.0))))
    ∙ ap (λ rest. comment ∷ rest) (none_has id (comment.id + 1) high comments (omega (arith, lt, h.0)) h.1)

at_least : (low high : ℕ) (comments : List Comment) → AreBetween low high comments → (index : ℕ) (one : Comment) → slice_get comments index ≡ Some one → low ≤ one.id
at_least low high [] h index one at = absurd (none_is_not_some one at)
  where
    none_is_not_some : (one : Comment) → slice_get [] index ≡ Some one → ⊥
    none_is_not_some one e = cc
at_least low high (comment ∷ comments) h zero one at = let same : comment ≡ one = some_is comment one at in omega (arith, h.0, ap (λ (c : Comment). c.id) same)
  where
    some_is : (x y : Comment) → Some x ≡ Some y → x ≡ y
    some_is x y e = cc
at_least low high (comment ∷ comments) h (suc index) one at = omega (arith, h.0, at_least (comment.id + 1) high comments h.1 index one at)

-- the comment at an index is the only one of its id
pub removed-by_id : (low high : ℕ) (comments : List Comment) → AreBetween low high comments
    → (index : ℕ) (one : Comment) → slice_get comments index ≡ Some one → remove comments index ≡ without (Delete one.id) comments
removed-by_id low high [] h index one at = absurd (none_is_not_some one at)
  where
    none_is_not_some : (one : Comment) → slice_get [] index ≡ Some one → ⊥
    none_is_not_some one e = cc
removed-by_id low high (comment ∷ comments) h zero one at =
    let same : comment ≡ one = some_is comment one at in
    let ids : comment.id ≡ one.id = ap (λ (c : Comment). c.id) same in
    sym (ap (λ b. cond (not b) (comment ∷ without (Delete one.id) comments) (without (Delete one.id) comments)) (eqb-same comment.id one.id ids)
    ∙ none_has one.id (comment.id + 1) high comments (omega (arith, ids)) h.1)
  where
    some_is : (x y : Comment) → Some x ≡ Some y → x ≡ y
    some_is x y e = cc
removed-by_id low high (comment ∷ comments) h (suc index) one at =
    let higher : comment.id + 1 ≤ one.id = at_least (comment.id + 1) high comments h.1 index one at in
    ap (λ rest. comment ∷ rest) (removed-by_id (comment.id + 1) high comments h.1 index one at)
    ∙ sym (ap (λ b. cond (not b) (comment ∷ without (Delete one.id) comments) (without (Delete one.id) comments)) (eqb-apart comment.id one.id (λ e. absurd (omega (arith, e, higher)))))

-- ---- what a book keeps

pub kept-add : (comments new : List Comment) (places counts : List ℕ) (downtimes down next_id capacity room : ℕ) (comment : Comment)
    → IsKept comments places downtimes next_id capacity → comment.id ≡ next_id → next_id < 2 ^ 32 → new ≡ comments ++ comment ∷ []
    → 16384 ≤ length counts
    → ((all : List Comment) → length all + 1 < 2 ^ 32 → IsCounted places downtimes all → IsCounted counts down (all ++ comment ∷ []))
    → IsKept new counts down (next_id + 1) room
kept-add comments new places counts downtimes down next_id capacity room comment kept id_is small is sized counted = record {
  ids = let P : List Comment → Type 0 = λ all. AreBetween 1 (next_id + 1) all in subst P (sym is) (between-push 1 next_id comments comment id_is kept.ids);
  last = omega (arith, small);
  counted =
      let P : List Comment → Type 0 = λ all. IsCounted counts down all in
      subst P (sym is) (counted comments (omega (arith, small, few 1 next_id comments kept.ids)) kept.counted);
  sized = λ some. sized;
}

kept-filter : (p : Comment → Bool) (comments new : List Comment) (places counts : List ℕ) (downtimes down next_id capacity : ℕ)
    → IsKept comments places downtimes next_id capacity → new ≡ filter p comments → length counts ≡ length places
    → IsCounted counts down (filter p comments) → IsKept new counts down next_id capacity
kept-filter p comments new places counts downtimes down next_id capacity kept is same counted = record {
  ids =
      let P : List Comment → Type 0 = λ all. AreBetween 1 next_id all in
      subst P (sym is) (between-filter p 1 next_id comments kept.ids);
  last = kept.last;
  counted = let P : List Comment → Type 0 = λ all. IsCounted counts down all in subst P (sym is) counted;
  sized = λ some.
      let fewer : length (filter p comments) ≤ length comments = length-without p comments in
      let large : 16384 ≤ length places = kept.sized (omega (arith, some, fewer, ap length is)) in
      omega (arith, large, same);
}

pub kept-without : (event : CommentEvent) (comments new : List Comment) (places counts : List ℕ) (downtimes down next_id capacity : ℕ)
    → IsKept comments places downtimes next_id capacity → new ≡ without event comments → length counts ≡ length places
    → IsCounted counts down (without event comments) → IsKept new counts down next_id capacity
kept-without event = kept-filter (λ (one : Comment). not (removes event one))

pub kept-live : (live : ℕ → Bool) (comments new : List Comment) (places counts : List ℕ) (downtimes down next_id capacity : ℕ)
    → IsKept comments places downtimes next_id capacity → new ≡ with_live live comments → length counts ≡ length places
    → IsCounted counts down (with_live live comments) → IsKept new counts down next_id capacity
kept-live live = kept-filter (λ (one : Comment). outlives live one.source)

split_at : (comments : List Comment) (index : ℕ) (comment : Comment) → index < length comments → comment ≡ get_or comments index comment
    → comments ≡ take index comments ++ comment ∷ drop (index + 1) comments
split_at [] index comment within is = absurd (omega arith)
split_at (first ∷ comments) zero comment within is = ap (λ one. one ∷ comments) (sym is)
split_at (first ∷ comments) (suc index) comment within is =
    let next : suc (index + 1) ≡ suc index + 1 = omega arith in
    ap (λ rest. first ∷ rest) (split_at comments index comment (omega (arith, within)) is)
    ∙ ap (λ n. first ∷ (take index comments ++ comment ∷ drop n (first ∷ comments))) next

pub kept-removed : (comments new : List Comment) (places counts : List ℕ) (downtimes down next_id capacity room index : ℕ) (comment : Comment)
    → IsKept comments places downtimes next_id capacity → index < length comments → comment ≡ get_or comments index comment
    → slice_get comments index ≡ Some comment → new ≡ remove comments index → length counts ≡ length places
    → ((before after : List Comment) → IsCounted places downtimes (before ++ comment ∷ after) → IsCounted counts down (before ++ after))
    → IsKept new counts down next_id room
kept-removed comments new places counts downtimes down next_id capacity room index comment kept within is at removed same counted =
    let by_id : new ≡ without (Delete comment.id) comments = removed ∙ removed-by_id 1 next_id comments kept.ids index comment at in
    let large : 16384 ≤ length places = kept.sized (omega (arith, within)) in
    record {
      ids =
          let P : List Comment → Type 0 = λ all. AreBetween 1 next_id all in
          subst P (sym by_id) (between-filter (λ (one : Comment). not (removes (Delete comment.id) one)) 1 next_id comments kept.ids);
      last = kept.last;
      counted =
          let P : List Comment → Type 0 = λ all. IsCounted places downtimes all in
          let Q : List Comment → Type 0 = λ all. IsCounted counts down all in
          let next : index + 1 ≡ suc index = omega arith in
          let joined : take index comments ++ drop (index + 1) comments ≡ new = ap (λ n. take index comments ++ drop n comments) next ∙ sym removed in
          subst Q joined (counted (take index comments) (drop (index + 1) comments) (subst P (split_at comments index comment within is) kept.counted));
      sized = λ some. omega (arith, large, same);
    }
