-- What a book of downtime entries shows, and what each call makes of the entries.
use Rattle.std.specs.Prelude.{◌≡◌, ℕ, Bool, false, not, ◌&&◌, ◌||◌, ◌+◌, ◌==◌, List, length, map, reverse, find, filter, Option, Some, None, option_map, if◌then◌else◌}
use Rattle.std.specs.List.{list_any}
use Rattle.gate_model.specs.declared.record.Moment.{Moment}
use Rattle.gate_model.specs.declared.object.ObjectId.{ObjectId}
use Rattle.gate_model.specs.declared.downtime.Plan.{Plan}
use Rattle.gate_model.specs.declared.downtime.Scheduled.{Scheduled}
use Rattle.gate_model.specs.declared.downtime.Entry.{Entry}
use Rattle.gate_model.specs.Record.{later}
use Rattle.gate_model.specs.Downtime.{begins_at, is_chained, is_live_in, or_else}

-- all entries ever scheduled, the newest first; the moment of the book; the first id; how many objects there are; how
-- many more entries can be scheduled without memory; and the ids that `next_gone` has returned, ascending
pub record DowntimeView : Type 0 where
  pub entries : List Entry
  pub moment : Moment
  pub first_id : ℕ
  pub objects : ℕ
  pub room : ℕ
  pub returned : List ℕ

-- the id of the next entry
abbrev pub next_id : DowntimeView → ℕ
next_id book = book.first_id + length book.entries

-- the entry that a schedule adds
abbrev pub fresh : DowntimeView → ObjectId → Plan → Entry
fresh book object plan = record {
  scheduled = record { id = next_id book; object = object; plan = plan; moment = book.moment };
  transition = None;
  deleted = false;
}

-- the entry after a transition of the object at this place
abbrev pub after_transition : Moment → ℕ → Entry → Entry
after_transition moment place entry = record {
  scheduled = entry.scheduled;
  transition = or_else entry.transition
      (if begins_at entry.scheduled moment place && not entry.deleted then Some moment else None);
  deleted = entry.deleted;
}

-- the entry after the deletion of all entries that have this property
abbrev pub after_deletion : (ℕ → Bool) → Entry → Entry
after_deletion is_hit entry = record {
  scheduled = entry.scheduled;
  transition = entry.transition;
  deleted = entry.deleted || is_hit entry.scheduled.id;
}

-- the entries after a deletion of the entry of this id: a chain of live entries leads from each that is deleted to it
abbrev pub without : ℕ → DowntimeView → List Entry
without id book =
    map (after_deletion (is_chained (is_live_in book.entries book.moment.0) book.entries id)) book.entries

-- the entry of this id is live
abbrev pub is_live_now : DowntimeView → ℕ → Bool
is_live_now book id = is_live_in book.entries book.moment.0 id

-- the entry of this id was returned by `next_gone`
abbrev pub was_returned : List ℕ → ℕ → Bool
was_returned returned id = list_any (λ (other : ℕ). other == id) returned

-- the least id of an entry that isn't live at this moment, and wasn't returned before
abbrev pub next_gone_of : List Entry → Moment → List ℕ → Option ℕ
next_gone_of entries moment returned =
    option_map (λ (entry : Entry). entry.scheduled.id)
    (find
    (λ (entry : Entry).
    not (is_live_in entries moment.0 entry.scheduled.id) && not (was_returned returned entry.scheduled.id))
    (reverse entries))

-- the least id of an entry of the book that isn't live, and wasn't returned before
abbrev pub next_gone_now : DowntimeView → Option ℕ
next_gone_now book = next_gone_of book.entries book.moment book.returned

-- this id is the answer
abbrev pub is_answer : Option ℕ → ℕ → Bool
is_answer None id = false
is_answer (Some other) id = other == id

-- the entries that are live at this moment, as they were scheduled, ids ascending
abbrev pub live_entries : List Entry → Moment → List Scheduled
live_entries entries moment =
    map (λ (entry : Entry). entry.scheduled)
    (filter (λ (entry : Entry). is_live_in entries moment.0 entry.scheduled.id) (reverse entries))

-- how many entries are live
abbrev pub live_count : DowntimeView → ℕ
live_count book = length (live_entries book.entries book.moment)

-- the returned ids of the new book are those of the old one, and this answer
abbrev pub ReturnsToo : Option ℕ → DowntimeView → DowntimeView → Type 0
ReturnsToo answer old new =
    (id : ℕ) → was_returned new.returned id ≡ (was_returned old.returned id || is_answer answer id)

-- the book at the later of its moment and this one
abbrev pub with_later : Moment → DowntimeView → DowntimeView
with_later moment book = record book { moment = later book.moment moment }

-- the book with these entries
abbrev pub with_entries : List Entry → DowntimeView → DowntimeView
with_entries entries book = record book { entries = entries }

-- the book with this room
abbrev pub with_room : ℕ → DowntimeView → DowntimeView
with_room room book = record book { room = room }

-- the book after a transition of the object at this place, at its moment
abbrev pub with_transition : ℕ → DowntimeView → DowntimeView
with_transition place book = with_entries (map (after_transition book.moment place) book.entries) book
