-- What one more event changes in the meaning of comments.
use Rattle.std.proofs.Common.{◌≡◌, ℕ, Bool, true, false, cond, not, ◌||◌, List, [], ◌∷◌, ◌++◌, refl, sym, ap, ◌∙◌}
use Rattle.std.specs.Prelude.{filter}
use Rattle.std.specs.List.{list_any}
use Rattle.gate_model.specs.declared.comments.Comment.{Comment}
use Rattle.gate_model.specs.declared.comments.CommentEvent.{CommentEvent}
use Rattle.gate_model.specs.declared.comments.CommentEvent.TheVariants.{Add, Delete, DeleteAll, Clear, Gone}
use Rattle.gate_model.specs.Comments.{removes, unless_removed, comments_left, comments_of, comment_made}

filter-append : {X : Type 0} (p : X → Bool) (xs ys : List X) → filter p (xs ++ ys) ≡ filter p xs ++ filter p ys
filter-append p [] ys = refl
filter-append p (x ∷ xs) ys = cons_case (p x) x (filter p (xs ++ ys)) (filter p xs) (filter p ys) (filter-append p xs ys)
  where
    cons_case : {X : Type 0} (b : Bool) (x : X) (whole front back : List X) → whole ≡ front ++ back → cond b (x ∷ whole) whole ≡ cond b (x ∷ front) front ++ back
    cons_case true x whole front back e = ap (λ r. x ∷ r) e
    cons_case false x whole front back e = e

list_any-insert : {X : Type 0} (p : X → Bool) (xs : List X) (y : X) (ys : List X) → list_any p (xs ++ y ∷ ys) ≡ (p y || list_any p (xs ++ ys))
list_any-insert p [] y ys = refl
list_any-insert p (x ∷ xs) y ys = ap (λ b. p x || b) (list_any-insert p xs y ys) ∙ swapped (p x) (p y) (list_any p (xs ++ ys))
  where
    swapped : (a b c : Bool) → (a || (b || c)) ≡ (b || (a || c))
    swapped true true c = refl
    swapped true false c = refl
    swapped false true c = refl
    swapped false false c = refl

-- one more later event
abbrev pub stays_after : CommentEvent → Comment → Bool
stays_after e c = not (removes e c)

unless-removed-insert : (xs later : List CommentEvent) (e : CommentEvent) (c : Comment) → unless_removed (xs ++ e ∷ later) c ≡ filter (stays_after e) (unless_removed (xs ++ later) c)
unless-removed-insert xs later e c =
    ap (λ b. cond b [] (c ∷ [])) (list_any-insert (λ x. removes x c) xs e later) ∙ split (removes e c) (list_any (λ x. removes x c) (xs ++ later)) refl
  where
    split : (r b : Bool) → removes e c ≡ r → cond (r || b) [] (c ∷ []) ≡ filter (stays_after e) (cond b [] (c ∷ []))
    split true true h = refl
    split false true h = refl
    split true false h = sym (ap (λ x. cond (not x) (c ∷ []) []) h)
    split false false h = sym (ap (λ x. cond (not x) (c ∷ []) []) h)

comments_left-insert : (first : ℕ) (xs later : List CommentEvent) (e : CommentEvent) (h : List CommentEvent) → comments_left first (xs ++ e ∷ later) h ≡ filter (stays_after e) (comments_left first (xs ++ later) h)
comments_left-insert first xs later e [] = refl
comments_left-insert first xs later e (Add o s persistent r ∷ before) =
    ap (λ front. front ++ unless_removed (xs ++ e ∷ later) (comment_made first before o s persistent r)) (comments_left-insert first (Add o s persistent r ∷ xs) later e before)
    ∙ ap (λ back. filter (stays_after e) (comments_left first (Add o s persistent r ∷ xs ++ later) before) ++ back) (unless-removed-insert xs later e (comment_made first before o s persistent r))
    ∙ sym (filter-append (stays_after e) (comments_left first (Add o s persistent r ∷ xs ++ later) before) (unless_removed (xs ++ later) (comment_made first before o s persistent r)))
comments_left-insert first xs later e (Delete id ∷ before) = comments_left-insert first (Delete id ∷ xs) later e before
comments_left-insert first xs later e (DeleteAll p ∷ before) = comments_left-insert first (DeleteAll p ∷ xs) later e before
comments_left-insert first xs later e (Clear p ∷ before) = comments_left-insert first (Clear p ∷ xs) later e before
comments_left-insert first xs later e (Gone d ∷ before) = comments_left-insert first (Gone d ∷ xs) later e before

filter-all : {X : Type 0} (xs : List X) → filter (λ x. true) xs ≡ xs
filter-all [] = refl
filter-all (x ∷ xs) = ap (λ r. x ∷ r) (filter-all xs)

-- the comments after one more event: those that it leaves, and the one that it adds
pub comments_of-add : (first : ℕ) (o : _) (s : _) (persistent : Bool) (r : ℕ) (h : List CommentEvent)
    → comments_of first (Add o s persistent r ∷ h) ≡ comments_of first h ++ (comment_made first h o s persistent r) ∷ []
comments_of-add first o s persistent r h =
    ap (λ front. front ++ (comment_made first h o s persistent r) ∷ [])
    (comments_left-insert first [] [] (Add o s persistent r) h ∙ filter-all (comments_of first h))

pub comments_of-delete : (first id : ℕ) (h : List CommentEvent) → comments_of first (Delete id ∷ h) ≡ filter (stays_after (Delete id)) (comments_of first h)
comments_of-delete first id h = comments_left-insert first [] [] (Delete id) h

pub comments_of-delete_all : (first p : ℕ) (h : List CommentEvent) → comments_of first (DeleteAll p ∷ h) ≡ filter (stays_after (DeleteAll p)) (comments_of first h)
comments_of-delete_all first p h = comments_left-insert first [] [] (DeleteAll p) h

pub comments_of-clear : (first p : ℕ) (h : List CommentEvent) → comments_of first (Clear p ∷ h) ≡ filter (stays_after (Clear p)) (comments_of first h)
comments_of-clear first p h = comments_left-insert first [] [] (Clear p) h

pub comments_of-gone : (first d : ℕ) (h : List CommentEvent) → comments_of first (Gone d ∷ h) ≡ filter (stays_after (Gone d)) (comments_of first h)
comments_of-gone first d h = comments_left-insert first [] [] (Gone d) h
