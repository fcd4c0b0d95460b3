-- Only proofs and private functions use this: what happened in judged records, and when the books follow it.
use Rattle.std.specs.Prelude.{◌≡◌, ℕ, ℤ, min, max, ◌+◌, ◌/◌, ◌<◌, ◌≤◌, ◌==◌, Bool, true, false, not, List, ◌∷◌, ◌++◌, length, map, reverse, filter, slice_get, Option, Some, None, Result, Ok, Err, All, if◌then◌else◌}
use Rattle.std.specs.List.{cons_option, list_any, list_all, enumerate_from}
use Rattle.std.specs.Option.{option_to_list}
use Rattle.gate_model.specs.declared.record.Moment.{Moment}
use Rattle.gate_model.specs.declared.object.ObjectId.{ObjectId}
use Rattle.gate_model.specs.declared.object.ObjectLine.{ObjectLine}
use Rattle.gate_model.specs.declared.act.Deed.{Deed}
use Rattle.gate_model.specs.declared.act.Act.{Act}
use Rattle.gate_model.specs.declared.record.Outcome.{Outcome}
use Rattle.gate_model.specs.declared.record.Outcome.TheVariants.{Accepted}
use Rattle.gate_model.specs.declared.status.ObjectEvent.{ObjectEvent}
use Rattle.gate_model.specs.declared.downtime.DowntimeEvent.{DowntimeEvent}
use Rattle.gate_model.specs.declared.downtime.DowntimeEvent.TheVariants.{Schedule, Transition}
use Rattle.gate_model.specs.declared.downtime.Entry.{Entry}
use Rattle.gate_model.specs.declared.comments.CommentEvent.{CommentEvent}
use Rattle.gate_model.specs.declared.comments.CommentEvent.TheVariants.{Add, Clear}
use Rattle.gate_model.specs.declared.comments.Comment.{Comment}
use Rattle.gate_model.specs.declared.comments.Source.{Source}
use Rattle.gate_model.specs.declared.downtime.Plan.{Plan}
use Rattle.gate_model.specs.Record.{is_accepted}
use Rattle.gate_model.specs.Table.{most_services}
use Rattle.gate_model.specs.Comments.{comments_of, number_made}
use Rattle.gate_model.specs.Downtime.{scheduled_in, is_live_in}
use Rattle.gate_model.specs.Meaning.{Judged, object_event_of_deed, object_event_of, object_events, downtime_events_of_deed, downtime_events_of, downtime_events, transition_by, clearing_by, addition_of_entry, comment_events_of_deed, comment_events_of, comment_events, outlives, outcome_of_window, outcome_of_deed, outcome_at}
use Rattle.gate_objects.specs.Book.{shown_threshold}
use Rattle.gate_objects.specs.Standing.{IsStanding as ObjectsStand, result_event}
use Rattle.gate_downtime.specs.Standing.{IsStanding as DowntimeStands}
use Rattle.gate_downtime.specs.Book.{DowntimeView, next_id, is_live_now, was_returned, next_gone_of}
use Rattle.gate_applier.specs.declared.books.Books.{Books}

-- these objects are among those that the books were opened with
abbrev pub AreInBooks : List ObjectId → Books → Type 0
AreInBooks objects books = All (λ (one : ObjectId). one.place < books.downtime.objects) objects

-- what happened to the objects, to the downtime entries and to the comments, the newest first
pub record Events : Type 0 where
  pub objects : List ObjectEvent
  pub downtimes : List DowntimeEvent
  pub comments : List CommentEvent

-- what happened in these judged records
abbrev pub events_of : List ObjectLine → List Judged → Events
events_of table judgements = record {
  objects = object_events table judgements;
  downtimes = downtime_events table judgements;
  comments = comment_events table judgements;
}

-- the threshold that a line of the table gives its object, in seconds
abbrev pub threshold_of_line : Option ObjectLine → ℕ
threshold_of_line None = 0
threshold_of_line (Some line) = line.threshold

-- the id of the next entry, after these events
abbrev pub next_entry : Events → ℕ
next_entry events = 1 + length (scheduled_in 1 events.downtimes)

-- these events, and what an accepted deed on this object adds to them
abbrev pub events_after_deed : Moment → ℕ → Deed → ObjectId → Events → Events
events_after_deed moment log_index deed found events = record {
  objects = cons_option (object_event_of_deed moment log_index deed found) events.objects;
  downtimes = downtime_events_of_deed events.objects moment log_index deed found ++ events.downtimes;
  comments =
      comment_events_of_deed events.objects (next_entry events) moment log_index deed found ++ events.comments;
}

-- these events, and what an accepted act adds to them
abbrev pub events_after : List ObjectLine → Moment → ℕ → Act → Events → Events
events_after table moment log_index act events = record {
  objects = cons_option (object_event_of table moment log_index act) events.objects;
  downtimes = downtime_events_of table events.objects moment log_index act ++ events.downtimes;
  comments =
      comment_events_of table events.objects (next_entry events) moment log_index act ++ events.comments;
}

-- these events, and what an act of this outcome adds to them: nothing, if it was refused
abbrev pub events_with : List ObjectLine → Moment → ℕ → Act → Outcome → Events → Events
events_with table moment log_index act outcome events =
    if is_accepted outcome then events_after table moment log_index act events else events

-- the entry of this id was scheduled
abbrev pub is_scheduled : List Entry → ℕ → Bool
is_scheduled entries id = list_any (λ (entry : Entry). entry.scheduled.id == id) entries

-- the source is no downtime entry, or one that was scheduled
abbrev pub is_of_scheduled : List Entry → Source → Bool
is_of_scheduled entries source = outlives (is_scheduled entries) source

-- the entry was scheduled, and isn't live
pub record IsGone (book : DowntimeView) (id : ℕ) : Type 0 where
  pub scheduled : is_scheduled book.entries id ≡ true
  pub dead : is_live_in book.entries book.moment.0 id ≡ false

-- the entry of this id was not returned as gone
abbrev pub is_unreturned : DowntimeView → ℕ → Bool
is_unreturned book id = not (was_returned book.returned id)

-- a comment stands as long as its entry wasn't returned as gone
abbrev pub stands_unreturned : DowntimeView → Comment → Bool
stands_unreturned book comment = outlives (is_unreturned book) comment.source

-- the comment is of no entry, or of one that was scheduled
abbrev pub has_scheduled : DowntimeView → Comment → Bool
has_scheduled book comment = is_of_scheduled book.entries comment.source

-- the books follow these events up to this moment, but for the comments of entries that are gone and were not
-- returned yet
pub record BooksFollow (events : Events) (moment : Moment) (books : Books) : Type 0 where
  pub objects_stand : ObjectsStand books.objects events.objects
  pub downtime_stands : DowntimeStands 1 books.downtime events.downtimes moment
  pub comments_are : books.comments.comments ≡ filter (stands_unreturned books.downtime) (comments_of 1 events.comments)
  pub next_comment_is : books.comments.next_id ≡ 1 + number_made events.comments
  pub scheduled : list_all (has_scheduled books.downtime) books.comments.comments ≡ true
  pub returned_gone : (id : ℕ) → was_returned books.downtime.returned id ≡ true → IsGone books.downtime id

-- the books follow these events up to this moment, and all entries that are gone were returned
pub record BooksStand (events : Events) (moment : Moment) (books : Books) : Type 0 where
  pub follow : BooksFollow events moment books
  pub settled : next_gone_of books.downtime.entries books.downtime.moment books.downtime.returned ≡ None

-- whatever happened before, the new books follow it with this change of the events, where the old ones do
abbrev pub Follows : Moment → (Events → Events) → Books → Books → Type 0
Follows moment change old new =
    (events : Events) → BooksFollow events moment old → BooksFollow (change events) moment new

-- the outcome of what was accepted, or refused so
abbrev pub outcome_of : Result (Unit {0}) Outcome → Outcome
outcome_of (Ok done) = Accepted
outcome_of (Err refusal) = refusal

-- the act of this outcome was judged after these records, and the new books follow it
pub record IsJudged (table : List ObjectLine) (before : List Judged) (moment : Moment) (log_index : ℕ) (act : Act)
    (outcome : Outcome) (new : Books) : Type 0 where
  pub outcome_is : outcome ≡ outcome_at table before moment act
  pub follow : BooksFollow (events_with table moment log_index act outcome (events_of table before)) moment new

-- the act of this outcome was judged after whichever records the old books stand after, and the new ones follow it
abbrev pub Judges : List ObjectLine → Moment → ℕ → Act → Outcome → Books → Books → Type 0
Judges table moment log_index act outcome old new =
    (before : List Judged) → BooksStand (events_of table before) moment old
    → IsJudged table before moment log_index act outcome new

-- the deed on this object, of this outcome, was judged after these records, and the new books follow it
pub record IsDone (table : List ObjectLine) (before : List Judged) (moment : Moment) (log_index : ℕ) (deed : Deed)
    (found : ObjectId) (outcome : Outcome) (new : Books) : Type 0 where
  pub outcome_is : outcome ≡ outcome_of_deed table before moment deed found.place
  pub follow :
      BooksFollow
      (if is_accepted outcome
      then events_after_deed moment log_index deed found (events_of table before)
      else events_of table before)
      moment new

-- the deed on this object, of this outcome, was judged after whichever records the old books stand after, and the new
-- ones follow it
abbrev pub Does : Moment → ℕ → Deed → ObjectId → Outcome → Books → Books → Type 0
Does moment log_index deed found outcome old new =
    (table : List ObjectLine) (before : List Judged) → BooksStand (events_of table before) moment old
    → IsDone table before moment log_index deed found outcome new

-- a source that stands: no downtime entry, or one that was scheduled and not returned as gone
pub record IsStandingSource (book : DowntimeView) (source : Source) : Type 0 where
  pub scheduled : is_of_scheduled book.entries source ≡ true
  pub unreturned : outlives (is_unreturned book) source ≡ true

-- the events with an accepted result, and with the transition and the clearing that it is
abbrev pub result_added : ObjectId → ℤ → ℕ → Moment → Events → Events
result_added object code log_index moment events =
    let event = result_event object code log_index moment in
    record {
      objects = event ∷ events.objects;
      downtimes = option_to_list (transition_by events.objects (Some event)) ++ events.downtimes;
      comments = option_to_list (clearing_by events.objects (Some event)) ++ events.comments;
    }

-- the events with a transition of the object at this place, if there is one
abbrev pub transition_added : Bool → Moment → ℕ → Events → Events
transition_added transition moment place events = record {
  objects = events.objects;
  downtimes = option_to_list (if transition then Some (Transition moment place) else None) ++ events.downtimes;
  comments = events.comments;
}

-- the events with a clearing of the acknowledgement of the object at this place, if there is one
abbrev pub clearing_added : Bool → ℕ → Events → Events
clearing_added cleared place events = record {
  objects = events.objects;
  downtimes = events.downtimes;
  comments = option_to_list (if cleared then Some (Clear place) else None) ++ events.comments;
}

-- the events with a comment added
abbrev pub comment_added : ObjectId → Source → Bool → ℕ → Events → Events
comment_added object source persistent log_index events = record {
  objects = events.objects;
  downtimes = events.downtimes;
  comments = Add object source persistent log_index ∷ events.comments;
}

-- the events with an entry scheduled for each of these objects in their order, and its comment
abbrev pub entries_added : Moment → Plan → List ObjectId → Events → Events
entries_added moment plan objects events = record {
  objects = events.objects;
  downtimes = reverse (map (λ object. Schedule moment object plan) objects) ++ events.downtimes;
  comments =
      reverse (map (addition_of_entry plan.log_index)
      (enumerate_from (1 + length (scheduled_in 1 events.downtimes)) objects))
      ++ events.comments;
}

-- the outcome of this plan for any object, by what the downtime book shows
abbrev pub outcome_of_plan : Plan → DowntimeView → Outcome
outcome_of_plan plan book = outcome_of_window (is_live_now book) book.moment plan.starts plan.ends plan.trigger

-- where the plan is accepted, the new books follow the events with the entries of these objects, and would accept it
-- again
pub record SchedulesEach (moment : Moment) (plan : Plan) (objects : List ObjectId) (events : Events) (new : Books)
    : Type 0 where
  pub follow : BooksFollow (entries_added moment plan objects events) moment new
  pub again : outcome_of_plan plan new.downtime ≡ Accepted

abbrev pub Schedules : Plan → List ObjectId → Books → Books → Type 0
Schedules plan objects old new =
    (events : Events) (moment : Moment) → BooksFollow events moment old → outcome_of_plan plan old.downtime ≡ Accepted
    → SchedulesEach moment plan objects events new

-- the objects are those of the table, at that opening
pub record IsOfTable (table : List ObjectLine) (opening : Moment) (books : Books) : Type 0 where
  pub opening_is : books.objects.opening ≡ opening
  pub rows : length books.objects.statuses ≡ length table
  pub thresholds : (place : ℕ) → shown_threshold books.objects place ≡ threshold_of_line (slice_get table place)
  pub places : books.downtime.objects ≡ length table
  pub per_record_is : books.per_record ≡ max 1 (most_services table)
  pub few : books.per_record ≤ 1024

-- for the comments and entries of how many more records there is room
abbrev pub room_of_books : Books → ℕ
room_of_books books = min (books.comments.room / books.per_record) (books.downtime.room / books.per_record)

-- the books are the same but for the room
pub record SharesRoom (old new : Books) : Type 0 where
  pub objects : new.objects ≡ old.objects
  pub downtime : new.downtime ≡ record old.downtime { room = new.downtime.room }
  pub comments : new.comments ≡ record old.comments { room = new.comments.room }
  pub per_record : new.per_record ≡ old.per_record

-- there is room, and there are ids, for so many more comments and entries
pub record CanMake (count : ℕ) (books : Books) : Type 0 where
  pub comment_room : count ≤ books.comments.room
  pub entry_room : count ≤ books.downtime.room
  pub comment_ids : books.comments.next_id + count ≤ 4294967296
  pub entry_ids : next_id books.downtime + count ≤ 4294967296

-- the books have a row for each object of the table, room and ids for all comments and entries that one more record
-- makes
pub record CanTake (table : List ObjectLine) (books : Books) : Type 0 where
  pub rows : length books.objects.statuses ≡ length table
  pub places : books.downtime.objects ≡ length table
  pub one : 1 ≤ books.per_record
  pub services : most_services table ≤ books.per_record
  pub make : CanMake books.per_record books

-- the objects are those of the same table, at the same opening
pub record SameTable (old new : Books) : Type 0 where
  pub opening : new.objects.opening ≡ old.objects.opening
  pub rows : length new.objects.statuses ≡ length old.objects.statuses
  pub thresholds : (place : ℕ) → shown_threshold new.objects place ≡ shown_threshold old.objects place
  pub places : new.downtime.objects ≡ old.downtime.objects
  pub per_record : new.per_record ≡ old.per_record

-- there is no less room, and no id was given
pub record KeepsRoom (old new : Books) : Type 0 where
  pub comments : old.comments.room ≤ new.comments.room
  pub entries : old.downtime.room ≤ new.downtime.room
  pub next_comment : new.comments.next_id ≡ old.comments.next_id
  pub next_entry : next_id new.downtime ≡ next_id old.downtime

-- the table is the same, and the room of so many comments and entries is taken at most
pub record Takes (count : ℕ) (old new : Books) : Type 0 where
  pub table : SameTable old new
  pub comments : old.comments.room ≤ new.comments.room + count
  pub entries : old.downtime.room ≤ new.downtime.room + count

-- the table is the same, and the room of one comment and of one entry is taken at most
abbrev pub TakesOne : Books → Books → Type 0
TakesOne old new = Takes 1 old new

-- so many ids were given at most
pub record Gives (count : ℕ) (old new : Books) : Type 0 where
  pub comments : new.comments.next_id ≤ old.comments.next_id + count
  pub entries : next_id new.downtime ≤ next_id old.downtime + count

-- entries were returned as gone, and nothing else changed
pub record ReturnsGone (old new : DowntimeView) : Type 0 where
  pub same : new ≡ record old { returned = new.returned }
  pub kept : (id : ℕ) → was_returned old.returned id ≡ true → was_returned new.returned id ≡ true
  pub gone : ((id : ℕ) → was_returned old.returned id ≡ true → IsGone old id) → (id : ℕ)
      → was_returned new.returned id ≡ true → IsGone new id
