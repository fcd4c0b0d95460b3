-- What a book shows after one more call.
use Rattle.std.proofs.Common.{◌≡◌, ℕ, ◌+◌, Bool, true, false, cond, not, ◌&&◌, ◌||◌, List, [], ◌∷◌, ◌++◌, map, eqb, refl, sym, ap, ◌∙◌, arith}
use Rattle.std.specs.Prelude.{filter}
use Rattle.std.specs.List.{list_any}
use Rattle.std.proofs.lemmas.Bool.{eq-eqb}
use Rattle.std.proofs.lemmas.List.Sums.{sum_by-cons}
use Rattle.gate_model.specs.declared.object.ObjectId.{ObjectId}
use Rattle.gate_model.specs.declared.comments.Source.{Source}
use Rattle.gate_model.specs.declared.comments.Source.TheVariants.{User, Ack, Downtime}
use Rattle.gate_model.specs.declared.comments.Comment.{Comment}
use Rattle.gate_model.specs.declared.comments.CommentEvent.{CommentEvent}
use Rattle.gate_model.specs.declared.comments.CommentEvent.TheVariants.{Add, Delete, DeleteAll, Clear, Gone}
use Rattle.gate_model.specs.Comments.{comments_of, number_made, is_addition, is_of_entry, removes}
use Rattle.gate_model.specs.Meaning.{outlives}
use Rattle.gate_model.proofs.CommentSteps.{comments_of-add, comments_of-delete, comments_of-delete_all, comments_of-clear, comments_of-gone}
use Rattle.gate_comments.specs.Book.{CommentsView, without, with_live, comment_by}
use Rattle.gate_comments.specs.Standing.{IsStanding, is_among, AreEnded, AddsEnds}

pub stands-add : (old new : CommentsView) (object : ObjectId) (source : Source) (persistent : Bool) (log_index : ℕ)
    → new.comments ≡ old.comments ++ comment_by old.next_id object source persistent log_index ∷ [] → new.next_id ≡ old.next_id + 1
    → (first : ℕ) (history : List CommentEvent) → IsStanding first old history → IsStanding first new (Add object source persistent log_index ∷ history)
stands-add old new object source persistent log_index comments_is next_is first history stands = record {
  comments_are =
      comments_is
      ∙ ap (λ comments. comments ++ comment_by old.next_id object source persistent log_index ∷ []) stands.comments_are
      ∙ ap (λ id. comments_of first history ++ comment_by id object source persistent log_index ∷ []) stands.next_id_is
      ∙ sym (comments_of-add first object source persistent log_index history);
  next_id_is =
      let made : number_made (Add object source persistent log_index ∷ history) ≡ 1 + number_made history =
      sum_by-cons (λ (event : CommentEvent). cond (is_addition event) 1 0) (Add object source persistent log_index) history in
      omega (arith, next_is, stands.next_id_is, made);
}

pub stands-delete : (old new : CommentsView) (id : ℕ) → new.comments ≡ without (Delete id) old.comments → new.next_id ≡ old.next_id
    → (first : ℕ) (history : List CommentEvent) → IsStanding first old history → IsStanding first new (Delete id ∷ history)
stands-delete old new id comments_is next_is first history stands = record {
  comments_are = comments_is ∙ ap (without (Delete id)) stands.comments_are ∙ sym (comments_of-delete first id history);
  next_id_is = next_is ∙ stands.next_id_is;
}

pub stands-delete_all : (old new : CommentsView) (place : ℕ) → new.comments ≡ without (DeleteAll place) old.comments → new.next_id ≡ old.next_id
    → (first : ℕ) (history : List CommentEvent) → IsStanding first old history → IsStanding first new (DeleteAll place ∷ history)
stands-delete_all old new place comments_is next_is first history stands = record {
  comments_are = comments_is ∙ ap (without (DeleteAll place)) stands.comments_are ∙ sym (comments_of-delete_all first place history);
  next_id_is = next_is ∙ stands.next_id_is;
}

pub stands-clear : (old new : CommentsView) (place : ℕ) → new.comments ≡ without (Clear place) old.comments → new.next_id ≡ old.next_id
    → (first : ℕ) (history : List CommentEvent) → IsStanding first old history → IsStanding first new (Clear place ∷ history)
stands-clear old new place comments_is next_is first history stands = record {
  comments_are = comments_is ∙ ap (without (Clear place)) stands.comments_are ∙ sym (comments_of-clear first place history);
  next_id_is = next_is ∙ stands.next_id_is;
}

pub stands-gone : (old new : CommentsView) (id : ℕ) → new.comments ≡ without (Gone id) old.comments → new.next_id ≡ old.next_id
    → (first : ℕ) (history : List CommentEvent) → IsStanding first old history → IsStanding first new (Gone id ∷ history)
stands-gone old new id comments_is next_is first history stands = record {
  comments_are = comments_is ∙ ap (without (Gone id)) stands.comments_are ∙ sym (comments_of-gone first id history);
  next_id_is = next_is ∙ stands.next_id_is;
}

-- ---- many entries end at once

both-at : (p q r : Comment → Bool) (one : Comment) (rest : List Comment) (a b : Bool) → p one ≡ a → q one ≡ b → r one ≡ (a && b) → filter q (filter p rest) ≡ filter r rest
    → filter q (cond a (one ∷ filter p rest) (filter p rest)) ≡ cond (r one) (one ∷ filter r rest) (filter r rest)
both-at p q r one rest true true at_p at_q at_r more =
    ap (λ c. cond c (one ∷ filter q (filter p rest)) (filter q (filter p rest))) at_q ∙ ap (λ all. one ∷ all) more ∙ sym (ap (λ c. cond c (one ∷ filter r rest) (filter r rest)) at_r)
both-at p q r one rest true false at_p at_q at_r more =
    ap (λ c. cond c (one ∷ filter q (filter p rest)) (filter q (filter p rest))) at_q ∙ more ∙ sym (ap (λ c. cond c (one ∷ filter r rest) (filter r rest)) at_r)
both-at p q r one rest false b at_p at_q at_r more = more ∙ sym (ap (λ c. cond c (one ∷ filter r rest) (filter r rest)) at_r)

both : (p q r : Comment → Bool) → ((one : Comment) → r one ≡ (p one && q one)) → (comments : List Comment) → filter q (filter p comments) ≡ filter r comments
both p q r is [] = refl
both p q r is (one ∷ comments) = both-at p q r one comments (p one) (q one) refl refl (is one) (both p q r is comments)

not-or : (a b : Bool) → not (a || b) ≡ (not b && not a)
not-or true true = refl
not-or true false = refl
not-or false true = refl
not-or false false = refl

one-more : (gone : ℕ) (ids : List ℕ) (source : Source)
    → outlives (λ id. not (is_among (gone ∷ ids) id)) source ≡ (outlives (λ id. not (is_among ids id)) source && not (is_of_entry gone source))
one-more gone ids User = refl
one-more gone ids Ack = refl
one-more gone ids (Downtime id) = not-or (eqb id gone) (is_among ids id)

none-ended : (comments : List Comment) → with_live (λ id. true) comments ≡ comments
none-ended [] = refl
none-ended (one ∷ comments) = ap (λ b. cond b (one ∷ with_live (λ id. true) comments) (with_live (λ id. true) comments)) (any-source one.source) ∙ ap (λ rest. one ∷ rest) (none-ended comments)
  where
    any-source : (source : Source) → outlives (λ id. true) source ≡ true
    any-source User = refl
    any-source Ack = refl
    any-source (Downtime id) = refl

after-ends : (old : CommentsView) (ids : List ℕ) (first : ℕ) (history : List CommentEvent) → IsStanding first old history
    → IsStanding first (record old { comments = with_live (λ id. not (is_among ids id)) old.comments }) (map (λ (id : ℕ). Gone id) ids ++ history)
after-ends old [] first history stands = record {
  comments_are = none-ended old.comments ∙ stands.comments_are;
  next_id_is = stands.next_id_is;
}
after-ends old (gone ∷ ids) first history stands =
    stands-gone (record old { comments = with_live (λ id. not (is_among ids id)) old.comments }) (record old { comments = with_live (λ id. not (is_among (gone ∷ ids) id)) old.comments }) gone
    (sym (both (λ (one : Comment). outlives (λ id. not (is_among ids id)) one.source) (λ (one : Comment). not (removes (Gone gone) one)) (λ (one : Comment). outlives (λ id. not (is_among (gone ∷ ids) id)) one.source)
    (λ one. one-more gone ids one.source) old.comments))
    refl first (map (λ (id : ℕ). Gone id) ids ++ history) (after-ends old ids first history stands)

same-source : (live other : ℕ → Bool) (source : Source) → ((id : ℕ) → is_of_entry id source ≡ true → live id ≡ other id) → outlives live source ≡ outlives other source
same-source live other User is = refl
same-source live other Ack is = refl
same-source live other (Downtime id) is = is id (eq-eqb id id refl)

-- two tests that agree on the entries of these comments leave the same of them
same-live : (live other : ℕ → Bool) (comments : List Comment) → ((id : ℕ) → list_any (λ (comment : Comment). is_of_entry id comment.source) comments ≡ true → live id ≡ other id)
    → with_live live comments ≡ with_live other comments
same-live live other [] is = refl
same-live live other (one ∷ comments) is =
    ap (λ b. cond b (one ∷ with_live live comments) (with_live live comments)) (same-source live other one.source (λ id e. is id (ap (λ b. b || list_any (λ (comment : Comment). is_of_entry id comment.source) comments) e)))
    ∙ ap (λ rest. cond (outlives other one.source) (one ∷ rest) rest) (same-live live other comments (λ id e. is id (later (is_of_entry id one.source) e)))
  where
    later : {rest : Bool} (here : Bool) → rest ≡ true → (here || rest) ≡ true
    later true e = refl
    later false e = e

pub stands-ended : (live : ℕ → Bool) (old new : CommentsView) → new.comments ≡ with_live live old.comments → new.next_id ≡ old.next_id
    → (ids : List ℕ) → AreEnded live old.comments ids → AddsEnds ids old new
stands-ended live old new comments_is next_is ids ended = λ first history stands.
    let after = after-ends old ids first history stands in
    record {
      comments_are = comments_is ∙ same-live live (λ id. not (is_among ids id)) old.comments ended ∙ after.comments_are;
      next_id_is = next_is ∙ after.next_id_is;
    }
