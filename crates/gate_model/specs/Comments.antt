-- Which comments stand, from what happened to the comments: `comments_of` (External Command List,
-- ADD_SVC_COMMENT, DEL_SVC_COMMENT, DEL_ALL_SVC_COMMENTS, ACKNOWLEDGE_SVC_PROBLEM).
-- Own rules: comments of hosts and services are numbered in one sequence; a comment of an acknowledgement goes
-- with it unless it is persistent; a comment of a downtime entry goes with the entry.
-- A history lists the newest event first, so what stands after an event in the list came before it.
use Rattle.std.specs.Prelude.{ℕ, Bool, true, false, not, ◌&&◌, ◌==◌, ◌+◌, List, [], ◌∷◌, ◌++◌, if◌then◌else◌, count_by}
use Rattle.std.specs.List.{list_any}
use Rattle.gate_model.specs.declared.object.ObjectId.{ObjectId}
use Rattle.gate_model.specs.declared.comments.Source.{Source}
use Rattle.gate_model.specs.declared.comments.Source.TheVariants.{User, Ack, Downtime}
use Rattle.gate_model.specs.declared.comments.Comment.{Comment}
use Rattle.gate_model.specs.declared.comments.CommentEvent.{CommentEvent}
use Rattle.gate_model.specs.declared.comments.CommentEvent.TheVariants.{Add, Delete, DeleteAll, Clear, Gone}

-- the event makes a comment
abbrev pub is_addition : CommentEvent → Bool
is_addition (Add object source persistent log_index) = true
is_addition (Delete id) = false
is_addition (DeleteAll place) = false
is_addition (Clear place) = false
is_addition (Gone id) = false

-- how many comments were made, those that stand no more among them
abbrev pub number_made : List CommentEvent → ℕ
number_made history = count_by is_addition history

-- the comment is of an acknowledgement
abbrev pub is_of_acknowledgement : Source → Bool
is_of_acknowledgement User = false
is_of_acknowledgement Ack = true
is_of_acknowledgement (Downtime entry) = false

-- the comment is of the downtime entry of this id
abbrev pub is_of_entry : ℕ → Source → Bool
is_of_entry id User = false
is_of_entry id Ack = false
is_of_entry id (Downtime entry) = entry == id

-- the event removes the comment, if it stands then
abbrev pub removes : CommentEvent → Comment → Bool
removes (Add object source persistent log_index) comment = false
removes (Delete id) comment = comment.id == id
removes (DeleteAll place) comment = comment.object.place == place
removes (Clear place) comment =
    (comment.object.place == place) && is_of_acknowledgement comment.source && not comment.persistent
removes (Gone id) comment = is_of_entry id comment.source

-- the comment alone, or nothing where one of these events removed it
abbrev pub unless_removed : List CommentEvent → Comment → List Comment
unless_removed later comment = if list_any (λ event. removes event comment) later then [] else comment ∷ []

-- the comment that is made after a history, the first of all having this id
abbrev pub comment_made : ℕ → List CommentEvent → ObjectId → Source → Bool → ℕ → Comment
comment_made first before object source persistent log_index =
    record {
      id = first + number_made before;
      object = object;
      source = source;
      persistent = persistent;
      log_index = log_index;
    }

-- the comments that a history made and that neither it nor the events later than it removed, ids ascending
abbrev pub comments_left : ℕ → List CommentEvent → List CommentEvent → List Comment
comments_left first later [] = []
comments_left first later (Add object source persistent log_index ∷ before) =
    comments_left first (Add object source persistent log_index ∷ later) before
    ++ unless_removed later (comment_made first before object source persistent log_index)
comments_left first later (event ∷ before) = comments_left first (event ∷ later) before

-- the comments that stand after a history, ids ascending; the first that was ever made has the id `first`
abbrev pub comments_of : ℕ → List CommentEvent → List Comment
comments_of first history = comments_left first [] history
