-- What the book of comments shows, and what each call leaves of the comments.
use Rattle.std.specs.Prelude.{◌≡◌, ◌≤◌, ◌+◌, ℕ, Bool, not, List, filter, length}
use Rattle.gate_model.specs.declared.object.ObjectId.{ObjectId}
use Rattle.gate_model.specs.declared.comments.Source.{Source}
use Rattle.gate_model.specs.declared.comments.Comment.{Comment}
use Rattle.gate_model.specs.declared.comments.CommentEvent.{CommentEvent}
use Rattle.gate_model.specs.Comments.{removes}
use Rattle.gate_model.specs.Meaning.{outlives}

-- the comments that stand, the id of the next, and how many more can be added without memory
pub record CommentsView : Type 0 where
  pub comments : List Comment
  pub next_id : ℕ
  pub room : ℕ

-- no memory was taken, nor given back: there is room for as many comments in all
abbrev pub KeepsMemory : CommentsView → CommentsView → Type 0
KeepsMemory old new = length new.comments + new.room ≡ length old.comments + old.room

-- the comments that the event leaves
abbrev pub without : CommentEvent → List Comment → List Comment
without event comments = filter (λ (comment : Comment). not (removes event comment)) comments

-- the comments without those of downtime entries that aren't live
abbrev pub with_live : (ℕ → Bool) → List Comment → List Comment
with_live is_live comments = filter (λ (comment : Comment). outlives is_live comment.source) comments

-- at each id, whatever is answered is what the test says
abbrev pub AnswersBy : (ℕ → Bool → Type 0) → (ℕ → Bool) → Type 0
AnswersBy IsAnswer test = (id : ℕ) (answer : Bool) → id ≤ 4294967295 → IsAnswer id answer → answer ≡ test id

-- a comment with this id
abbrev pub comment_by : ℕ → ObjectId → Source → Bool → ℕ → Comment
comment_by id object source persistent log_index =
    record { id = id; object = object; source = source; persistent = persistent; log_index = log_index }
