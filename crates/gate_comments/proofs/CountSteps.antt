-- The counts when they grow, and what it means that one is 0.
use Rattle.std.proofs.Common.{◌≡◌, ℕ, ◌+◌, Bool, true, false, cond, not, ◌&&◌, List, [], ◌∷◌, ◌++◌, length, take, drop, get_or, subst, replicate, zero, suc, ◌<◌, ◌≤◌, refl, sym, ap, ◌∙◌, inl, inr, eqb, arith}
use borrow.Author.Tests.{ltb-false}
use Rattle.std.specs.Prelude.{nat_lt, count_by, filter}
use Rattle.std.proofs.lemmas.Bool.{cases_Bool, true≢false}
use Rattle.std.proofs.lemmas.Bool.Decides.{eqb_tells}
use Rattle.std.proofs.lemmas.List.{take_all}
use Rattle.std.proofs.lemmas.List.Sums.{sum_by-cons}
use Rattle.gate_model.specs.declared.object.ObjectId.{ObjectId}
use Rattle.gate_model.specs.declared.comments.Comment.{Comment}
use Rattle.gate_model.specs.declared.comments.Source.{Source}
use Rattle.gate_model.specs.declared.comments.Source.TheVariants.{User, Ack, Downtime}
use Rattle.gate_model.specs.declared.comments.CommentEvent.{CommentEvent}
use Rattle.gate_model.specs.declared.comments.CommentEvent.TheVariants.{Add, Delete, DeleteAll, Clear, Gone}
use Rattle.gate_model.specs.Comments.{removes, is_of_acknowledgement, is_of_entry}
use Rattle.gate_model.specs.Meaning.{outlives}
use Rattle.gate_comments.specs.Book.{without, with_live}
use Rattle.gate_comments.specs.inner.Counts.{bucket_of, is_in_bucket, is_of_downtime, is_downtime, may_remove, IsCounted}

eqb-same : (n : ℕ) → eqb n n ≡ true
eqb-same n = elim (eqb_tells n n) [ inl w ↦ w.0 | inr w ↦ absurd (w.1 refl) ]

is_zero : (count : ℕ) → nat_lt 0 count ≡ false → count ≡ 0
is_zero count none = let le : count ≤ 0 = ltb-false 0 count none in omega arith

-- where no comment passes, and only those that pass are removed, all stay
none_removed : (p : Comment → Bool) (event : CommentEvent) (comments : List Comment) → ((one : Comment) → removes event one ≡ true → p one ≡ true)
    → count_by p comments ≡ 0 → without event comments ≡ comments
none_removed p event [] only none = refl
none_removed p event (comment ∷ comments) only none = elim (cases_Bool (removes event comment)) [
  | inl removed ↦
      let counted : ◌≡◌ {A = ℕ} (cond (p comment) 1 0) 1 = ap (λ b. cond b 1 0) (only comment removed) in
      let whole : ◌≡◌ {A = ℕ} (cond (p comment) 1 0 + count_by p comments) 0 = sym (sum_by-cons (λ (one : Comment). cond (p one) 1 0) comment comments) ∙ none in
      absurd (omega (arith, whole, counted))
  | inr kept ↦
      ap (λ b. cond (not b) (comment ∷ without event comments) (without event comments)) kept
      ∙ ap (λ rest. comment ∷ rest)
      (let whole : ◌≡◌ {A = ℕ} (cond (p comment) 1 0 + count_by p comments) 0 = sym (sum_by-cons (λ (one : Comment). cond (p one) 1 0) comment comments) ∙ none in
      none_removed p event comments only (omega (arith, whole)))
]

and-left : (a b : Bool) → (a && b) ≡ true → a ≡ true
and-left true b e = refl
and-left false b e = e

place-bucket : (place : ℕ) (comment : Comment) → eqb comment.object.place place ≡ true → is_in_bucket (bucket_of place) comment ≡ true
place-bucket place comment e = elim (eqb_tells comment.object.place place) [
  | inl w ↦ ap (λ n. eqb (bucket_of n) (bucket_of place)) w.1 ∙ eqb-same (bucket_of place)
  | inr w ↦ absurd (true≢false (sym e ∙ w.0))
]

none-delete_all : (place : ℕ) (comments : List Comment) → count_by (is_in_bucket (bucket_of place)) comments ≡ 0 → without (DeleteAll place) comments ≡ comments
none-delete_all place comments none = none_removed (is_in_bucket (bucket_of place)) (DeleteAll place) comments (λ one e. place-bucket place one e) none

none-clear : (place : ℕ) (comments : List Comment) → count_by (is_in_bucket (bucket_of place)) comments ≡ 0 → without (Clear place) comments ≡ comments
none-clear place comments none =
    none_removed (is_in_bucket (bucket_of place)) (Clear place) comments
    (λ one e. place-bucket place one
    (and-left (eqb one.object.place place) (is_of_acknowledgement one.source)
    (and-left (eqb one.object.place place && is_of_acknowledgement one.source) (not one.persistent) e)))
    none

entry-downtime : (id : ℕ) (source : Source) → is_of_entry id source ≡ true → is_downtime source ≡ true
entry-downtime id User e = e
entry-downtime id Ack e = e
entry-downtime id (Downtime entry) e = refl

none-gone : (id : ℕ) (comments : List Comment) → count_by is_of_downtime comments ≡ 0 → without (Gone id) comments ≡ comments
none-gone id comments none = none_removed is_of_downtime (Gone id) comments (λ one e. entry-downtime id one.source e) none

none-add : (object : ObjectId) (source : Source) (persistent : Bool) (log_index : ℕ) (comments : List Comment) → without (Add object source persistent log_index) comments ≡ comments
none-add object source persistent log_index [] = refl
none-add object source persistent log_index (comment ∷ comments) = ap (λ rest. comment ∷ rest) (none-add object source persistent log_index comments)

-- an event that may remove none removes none
pub none_left : (event : CommentEvent) (comments : List Comment) → may_remove event comments ≡ false → without event comments ≡ comments
none_left (Add object source persistent log_index) comments none = none-add object source persistent log_index comments
none_left (Delete id) comments none = absurd (true≢false none)
none_left (DeleteAll place) comments none = none-delete_all place comments (is_zero (count_by (is_in_bucket (bucket_of place)) comments) none)
none_left (Clear place) comments none = none-clear place comments (is_zero (count_by (is_in_bucket (bucket_of place)) comments) none)
none_left (Gone id) comments none = none-gone id comments (is_zero (count_by is_of_downtime comments) none)

-- where no comment is of a downtime entry, all outlive theirs
pub none_ended : (live : ℕ → Bool) (comments : List Comment) → count_by is_of_downtime comments ≡ 0 → with_live live comments ≡ comments
none_ended live [] none = refl
none_ended live (comment ∷ comments) none =
    let whole : ◌≡◌ {A = ℕ} (cond (is_of_downtime comment) 1 0 + count_by is_of_downtime comments) 0 = sym (sum_by-cons (λ (one : Comment). cond (is_of_downtime one) 1 0) comment comments) ∙ none in
    ap (λ b. cond b (comment ∷ with_live live comments) (with_live live comments)) (outlives_any comment.source (omega (arith, whole)))
    ∙ ap (λ rest. comment ∷ rest) (none_ended live comments (omega (arith, whole)))
  where
    outlives_any : (source : Source) → ◌≡◌ {A = ℕ} (cond (is_downtime source) 1 0) 0 → outlives live source ≡ true
    outlives_any User e = refl
    outlives_any Ack e = refl
    outlives_any (Downtime entry) e = cc

-- ---- a list, an element further

further : (p : Comment → Bool) (one : Comment) (before after left right : List Comment) → before ++ left ≡ after ++ right
    → cond (p one) (one ∷ before) before ++ left ≡ cond (p one) (one ∷ after) after ++ right
further p one before after left right same = split (p one)
  where
    split : (b : Bool) → cond b (one ∷ before) before ++ left ≡ cond b (one ∷ after) after ++ right
    split true = ap (λ rest. one ∷ rest) same
    split false = same

-- an element that passes stays where it is
pub kept-next : (p : Comment → Bool) (comments : List Comment) (index : ℕ) (default : Comment) → index < length comments → p (get_or comments index default) ≡ true
    → filter p (take (suc index) comments) ++ drop (suc index) comments ≡ filter p (take index comments) ++ drop index comments
kept-next p [] index default within passes = absurd (omega arith)
kept-next p (one ∷ comments) zero default within passes = ap (λ b. cond b (one ∷ []) [] ++ comments) passes
kept-next p (one ∷ comments) (suc index) default within passes =
    further p one (filter p (take (suc index) comments)) (filter p (take index comments)) (drop (suc index) comments) (drop index comments)
    (kept-next p comments index default (omega (arith, within)) passes)

-- an element that doesn't pass is the first that is still to come, and goes
pub dropped-next : (p : Comment → Bool) (comments : List Comment) (index : ℕ) (default : Comment) → index < length comments → p (get_or comments index default) ≡ false
    → filter p (take (suc index) comments) ≡ filter p (take index comments)
dropped-next p [] index default within fails = absurd (omega arith)
dropped-next p (one ∷ comments) zero default within fails = ap (λ b. cond b (one ∷ []) []) fails
dropped-next p (one ∷ comments) (suc index) default within fails =
    ap (λ rest. cond (p one) (one ∷ rest) rest) (dropped-next p comments index default (omega (arith, within)) fails)

pub first-left : (comments : List Comment) (index : ℕ) (default : Comment) → index < length comments
    → drop index comments ≡ get_or comments index default ∷ drop (suc index) comments
first-left [] index default within = absurd (omega arith)
first-left (one ∷ comments) zero default within = refl
first-left (one ∷ comments) (suc index) default within = first-left comments index default (omega (arith, within))

-- the counts, where it stays
pub counted-kept : (p : Comment → Bool) (comments : List Comment) (index : ℕ) (default : Comment) (places : List ℕ) (downtimes : ℕ)
    → index < length comments → p (get_or comments index default) ≡ true
    → IsCounted places downtimes (filter p (take index comments) ++ drop index comments)
    → IsCounted places downtimes (filter p (take (index + 1) comments) ++ drop (index + 1) comments)
counted-kept p comments index default places downtimes within passes counted =
    let P : List Comment → Type 0 = λ all. IsCounted places downtimes all in
    let next : suc index ≡ index + 1 = omega arith in
    subst P
    (sym (kept-next p comments index default within passes) ∙ ap (λ n. filter p (take n comments) ++ drop n comments) next)
    counted

-- and where it goes
pub counted-dropped : (p : Comment → Bool) (comments : List Comment) (index : ℕ) (default : Comment) (places counts : List ℕ) (downtimes down : ℕ)
    → index < length comments → p (get_or comments index default) ≡ false
    → ((before after : List Comment) → IsCounted places downtimes (before ++ get_or comments index default ∷ after) → IsCounted counts down (before ++ after))
    → IsCounted places downtimes (filter p (take index comments) ++ drop index comments)
    → IsCounted counts down (filter p (take (index + 1) comments) ++ drop (index + 1) comments)
counted-dropped p comments index default places counts downtimes down within fails removed counted =
    let P : List Comment → Type 0 = λ all. IsCounted places downtimes all in
    let Q : List Comment → Type 0 = λ all. IsCounted counts down all in
    let next : suc index ≡ index + 1 = omega arith in
    subst Q
    (ap (λ front. front ++ drop (suc index) comments) (sym (dropped-next p comments index default within fails))
    ∙ ap (λ n. filter p (take n comments) ++ drop n comments) next)
    (removed (filter p (take index comments)) (drop (suc index) comments)
    (subst P (ap (λ rest. filter p (take index comments) ++ rest) (first-left comments index default within)) counted))

-- nothing is left to count
pub counted-all : (p : Comment → Bool) (comments : List Comment) (index : ℕ) (places : List ℕ) (downtimes : ℕ) → length comments ≤ index
    → IsCounted places downtimes (filter p (take index comments) ++ drop index comments) → IsCounted places downtimes (filter p comments)
counted-all p comments index places downtimes past counted =
    let P : List Comment → Type 0 = λ all. IsCounted places downtimes all in
    subst P (ends comments index past) counted
  where
    ends : (all : List Comment) (at : ℕ) → length all ≤ at → filter p (take at all) ++ drop at all ≡ filter p all
    ends [] zero past = refl
    ends [] (suc at) past = refl
    ends (one ∷ all) zero past = absurd (omega (arith, past))
    ends (one ∷ all) (suc at) past = split (p one) (ends all at (omega (arith, past)))
      where
        split : (b : Bool) → filter p (take at all) ++ drop at all ≡ filter p all → cond b (one ∷ filter p (take at all)) (filter p (take at all)) ++ drop at all ≡ cond b (one ∷ filter p all) (filter p all)
        split true same = ap (λ rest. one ∷ rest) same
        split false same = same

-- ---- more counts, all 0

zeros : (more bucket : ℕ) → ◌≡◌ {A = ℕ} (get_or (replicate more 0) bucket 0) 0
zeros zero bucket = refl
zeros (suc more) zero = refl
zeros (suc more) (suc bucket) = zeros more bucket

grown : (places : List ℕ) (more bucket : ℕ) → ◌≡◌ {A = ℕ} (get_or (places ++ replicate more 0) bucket 0) (get_or places bucket 0)
grown [] more bucket = zeros more bucket
grown (count ∷ places) more zero = refl
grown (count ∷ places) more (suc bucket) = grown places more bucket

pub counted-grown : (places new : List ℕ) (more downtimes : ℕ) → length places < 16384 → new ≡ take 16384 places ++ replicate more 0
    → (comments : List Comment) → IsCounted places downtimes comments → IsCounted new downtimes comments
counted-grown places new more downtimes short is comments counted =
    let whole : new ≡ places ++ replicate more 0 = is ∙ ap (λ front. front ++ replicate more 0) (take_all 16384 places (omega (arith, short))) in
    record {
      places_are = λ bucket. ap (λ counts. get_or counts bucket 0) whole ∙ grown places more bucket ∙ counted.places_are bucket;
      downtimes_are = counted.downtimes_are;
    }
