-- The comment that a search by id finds, and what its deletion leaves.
use Rattle.std.proofs.Common.{◌≡◌, ◌≢◌, ℕ, ◌+◌, ◌<◌, Bool, true, false, cond, List, [], ◌∷◌, length, get_or, refl, sym, ap, ◌∙◌, inl, inr, eqb, arith, Some, None, Ok, Err, zero, suc}
use Rattle.std.specs.Prelude.{slice_get, find}
use Rattle.std.specs.List.{position_from, remove}
use Rattle.std.proofs.lemmas.Option.{slice_get_read}
use Rattle.std.proofs.lemmas.Bool.{true≢false}
use Rattle.std.proofs.lemmas.Bool.Decides.{eqb_tells}
use Rattle.gate_model.proofs.Lists.{position_from-found, position_from-within}
use Rattle.gate_model.proofs.SearchSteps.{rises, eqb-apart, eqb-same}
use Rattle.gate_model.specs.declared.object.Kind.{Kind}
use Rattle.gate_model.specs.declared.comments.Comment.{Comment}
use Rattle.gate_model.specs.Meaning.{is_same_kind}
use Rattle.gate_comments.specs.declared.faults.DeleteFault.TheVariants.{NoSuchComment, WrongKind}
use Rattle.gate_comments.specs.Faults.{deletion_of, deletion_by_id}
use Rattle.gate_model.specs.declared.comments.CommentEvent.TheVariants.{Delete}
use Rattle.gate_comments.specs.Book.{without}
use Rattle.gate_comments.specs.inner.Keeping.{AreBetween}
use Rattle.gate_comments.proofs.KeepingSteps.{ascending, removed-by_id}
use Rattle.gate_comments.specs.Search.{has_id, index_of_id, IsAscending}

pub find_none : (id from : ℕ) (comments : List Comment) → position_from (has_id id) from comments ≡ None → find (has_id id) comments ≡ None
find_none id from [] e = refl
find_none id from (comment ∷ comments) e = split (has_id id comment) (find_none id (from + 1) comments) e
  where
    split : (b : Bool) → (position_from (has_id id) (from + 1) comments ≡ None → find (has_id id) comments ≡ None)
        → cond b (Some from) (position_from (has_id id) (from + 1) comments) ≡ None → cond b (Some comment) (find (has_id id) comments) ≡ None
    split true rest e = cc
    split false rest e = rest e

find_at : (id : ℕ) (comments : List Comment) (found : ℕ) (comment : Comment) → slice_get comments found ≡ Some comment → comment.id ≡ id
    → ((index : ℕ) (one : Comment) → slice_get comments index ≡ Some one → index < found → one.id ≢ id)
    → find (has_id id) comments ≡ Some comment
find_at id [] found comment at is before = absurd (none_is_not_some at)
  where
    none_is_not_some : slice_get [] found ≡ Some comment → ⊥
    none_is_not_some e = cc
find_at id (first ∷ comments) zero comment at is before =
    ap (λ b. cond b (Some first) (find (has_id id) comments)) (eqb-same first.id id (ap (λ (c : Comment). c.id) (some_is first comment at) ∙ is)) ∙ at
  where
    some_is : (x y : Comment) → Some x ≡ Some y → x ≡ y
    some_is x y e = cc
find_at id (first ∷ comments) (suc found) comment at is before =
    ap (λ b. cond b (Some first) (find (has_id id) comments)) (eqb-apart first.id id (before 0 first refl (omega arith)))
    ∙ find_at id comments found comment at is (λ index one there lt. before (suc index) one there (omega (arith, lt)))

pub find_some : (id : ℕ) (comments : List Comment) (index : ℕ) (comment : Comment) → IsAscending comments
    → Some index ≡ index_of_id id comments → index < length comments → comment ≡ get_or comments index comment
    → (find (has_id id) comments ≡ Some comment) × (comment.id ≡ id) × (slice_get comments index ≡ Some comment)
find_some id comments index comment ascending found within is =
    let at : slice_get comments index ≡ Some comment = slice_get_read comments (length comments) index comment refl within is in
    let w = position_from-found (has_id id) comments index (sym found) in
    let both : Some w.0 ≡ Some comment = sym w.1 ∙ at in
    let same : w.0 ≡ comment = cc in
    let has : eqb comment.id id ≡ true = ap (has_id id) (sym same) ∙ w.2 in
    let id_is : comment.id ≡ id = equal_from comment.id id has in (
      find_at id comments index comment at id_is
          (λ earlier one there lt e. let h : one.id < comment.id = rises (λ (c : Comment). c.id) comments ascending earlier index one comment there at lt in absurd (omega (arith, h, e, id_is))),
      id_is,
      at,
    )
  where
    equal_from : (m n : ℕ) → eqb m n ≡ true → m ≡ n
    equal_from m n e = elim (eqb_tells m n) [ inl w ↦ w.1 | inr w ↦ absurd (true≢false (sym e ∙ w.0)) ]

pub found_within : (id : ℕ) (comments : List Comment) (index : ℕ) → Some index ≡ index_of_id id comments → index < length comments
found_within id comments index found = let h = position_from-within (has_id id) 0 comments index (sym found) in omega (arith, h.1)

-- the answer to a deletion, once the comment was found
pub answered : (kind : Kind) (id : ℕ) (comments : List Comment) (index : ℕ) (comment : Comment) (same : Bool) → IsAscending comments
    → Some index ≡ index_of_id id comments → index < length comments → comment ≡ get_or comments index comment → is_same_kind kind comment.object.kind ≡ same
    → cond same (Ok tt) (Err WrongKind) ≡ deletion_by_id kind id comments
answered kind id comments index comment same ascending found within is kinds =
    sym (ap (λ one. deletion_of kind one) (find_some id comments index comment ascending found within is).0 ∙ ap (λ b. cond b (Ok tt) (Err WrongKind)) kinds)

pub unanswered : (kind : Kind) (id : ℕ) (comments : List Comment) → None ≡ index_of_id id comments → Err NoSuchComment ≡ deletion_by_id kind id comments
unanswered kind id comments missing = sym (ap (λ one. deletion_of kind one) (find_none id 0 comments (sym missing)))

-- the comment that was found is the one that a deletion of its id removes
pub removed-found : (low high id : ℕ) (comments : List Comment) (index : ℕ) (comment : Comment) → AreBetween low high comments
    → Some index ≡ index_of_id id comments → comment ≡ get_or comments index comment → remove comments index ≡ without (Delete id) comments
removed-found low high id comments index comment between found is =
    let f = find_some id comments index comment (ascending low high comments between) found (found_within id comments index found) is in
    removed-by_id low high comments between index comment f.2 ∙ ap (λ n. without (Delete n) comments) f.1
