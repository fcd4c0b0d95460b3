-- When a book of comments stands after a history: all that it shows of comments is the meaning of that history. The
-- main definitions are `IsStanding`, `AddsEvent`, `AddsEnds` and `HoldsAfter`.
use Rattle.std.specs.Prelude.{◌≡◌, ℕ, ◌+◌, ◌==◌, Bool, true, not, List, ◌∷◌, ◌++◌, map}
use Rattle.std.specs.List.{list_any}
use Rattle.gate_model.specs.declared.comments.Comment.{Comment}
use Rattle.gate_model.specs.declared.comments.CommentEvent.{CommentEvent}
use Rattle.gate_model.specs.declared.comments.CommentEvent.TheVariants.{Gone}
use Rattle.gate_model.specs.Comments.{comments_of, number_made, is_of_entry}
use Rattle.gate_comments.specs.Book.{CommentsView}

-- the book has the comments that this history leaves, the first ever made having the id `first`
pub record IsStanding (first : ℕ) (book : CommentsView) (history : List CommentEvent) : Type 0 where
  pub comments_are : book.comments ≡ comments_of first history
  pub next_id_is : book.next_id ≡ first + number_made history

-- after whichever history the old book stands, the new one stands after it with the event added
abbrev pub AddsEvent : CommentEvent → CommentsView → CommentsView → Type 0
AddsEvent event old new =
    (first : ℕ) (history : List CommentEvent) → IsStanding first old history → IsStanding first new (event ∷ history)

-- the id is one of these
abbrev pub is_among : List ℕ → ℕ → Bool
is_among ids id = list_any (λ (other : ℕ). id == other) ids

-- of the downtime entries that have a comment here, those of these ids aren't live, and the others are
abbrev pub AreEnded : (ℕ → Bool) → List Comment → List ℕ → Type 0
AreEnded is_live comments ids =
    (id : ℕ) → list_any (λ (comment : Comment). is_of_entry id comment.source) comments ≡ true
    → is_live id ≡ not (is_among ids id)

-- after whichever history the old book stands, the new one stands after it with the end of each of these entries added
abbrev pub AddsEnds : List ℕ → CommentsView → CommentsView → Type 0
AddsEnds ids old new =
    (first : ℕ) (history : List CommentEvent) → IsStanding first old history
    → IsStanding first new (map (λ (id : ℕ). Gone id) ids ++ history)

-- this is so of every history after which the book stands, and of the id from which it counts
abbrev pub HoldsAfter : CommentsView → (ℕ → List CommentEvent → Type 0) → Type 0
HoldsAfter book Fact = (first : ℕ) (history : List CommentEvent) → IsStanding first book history → Fact first history
