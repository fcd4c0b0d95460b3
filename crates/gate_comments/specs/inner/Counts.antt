-- For proofs and private functions alone: what the hidden counts of a book count.
use Rattle.std.specs.Prelude.{◌≡◌, ℕ, ◌%◌, ◌==◌, ◌<◌, ◌≤◌, Bool, true, false, List, length, slice_index, nat_lt, count_by}
use Rattle.gate_model.specs.declared.comments.Source.{Source}
use Rattle.gate_model.specs.declared.comments.Source.TheVariants.{User, Ack, Downtime}
use Rattle.gate_model.specs.declared.comments.Comment.{Comment}
use Rattle.gate_model.specs.declared.comments.CommentEvent.{CommentEvent}
use Rattle.gate_model.specs.declared.comments.CommentEvent.TheVariants.{Add, Delete, DeleteAll, Clear, Gone}
use Rattle.gate_comments.specs.declared.counts.Counts.{Counts}

-- in which count a comment on the object at this place is
abbrev pub bucket_of : ℕ → ℕ
bucket_of place = place % 16384

-- the comment is counted in this bucket
abbrev pub is_in_bucket : ℕ → Comment → Bool
is_in_bucket bucket comment = bucket_of comment.object.place == bucket

-- the source is a downtime entry
abbrev pub is_downtime : Source → Bool
is_downtime User = false
is_downtime Ack = false
is_downtime (Downtime entry) = true

-- the comment is of a downtime entry
abbrev pub is_of_downtime : Comment → Bool
is_of_downtime comment = is_downtime comment.source

-- each count is that of these comments
pub record IsCounted (places : List ℕ) (downtimes : ℕ) (comments : List Comment) : Type 0 where
  pub places_are : (bucket : ℕ) → slice_index places bucket ≡ count_by (is_in_bucket bucket) comments
  pub downtimes_are : downtimes ≡ count_by is_of_downtime comments

-- the counts are those of these comments, and have all their memory where there are any
pub record CountsAll (counts : Counts) (comments : List Comment) : Type 0 where
  pub sized : 0 < length comments → 16384 ≤ length counts.places.items
  pub counted : IsCounted counts.places.items counts.downtimes comments

-- there are as many counts by place as there were
abbrev pub KeepsPlaces : Counts → Counts → Type 0
KeepsPlaces old new = length new.places.items ≡ length old.places.items

-- the event may remove a comment, by the counts: one is there on its object, or of a downtime entry
abbrev pub may_remove : CommentEvent → List Comment → Bool
may_remove (Add object source persistent log_index) comments = false
may_remove (Delete id) comments = true
may_remove (DeleteAll place) comments = nat_lt 0 (count_by (is_in_bucket (bucket_of place)) comments)
may_remove (Clear place) comments = nat_lt 0 (count_by (is_in_bucket (bucket_of place)) comments)
may_remove (Gone id) comments = nat_lt 0 (count_by is_of_downtime comments)
