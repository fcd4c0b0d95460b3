-- Scheduled downtime (Nagios Core 4 manual, Scheduled Downtime), from what happened to the downtime entries:
-- when an entry begins, when it is over, whether it was deleted, whether it is live and active, and how deep an
-- object is in downtime. The main definitions are `begin_of`, `over_of`, `is_live`, `is_active` and `depth_of`.
-- Own rules: a flexible entry begins at a transition alone; a triggered one begins with its trigger and has its
-- own end; when an entry without a beginning is over; that a deletion stops at an entry that isn't live.
-- A history lists the newest event first, so what stands after an event in the list came before it. Beginnings
-- and ends depend on the history alone, and a moment is only compared with them. Ends are numbers of seconds of
-- any size, since a beginning and a duration may add up to more than a moment can be.
use Rattle.std.specs.Prelude.{ℕ, Bool, false, not, ◌&&◌, ◌||◌, ◌==◌, nat_lt, nat_le, ◌+◌, min, max, List, [], ◌∷◌, length, map, Option, Some, None, option_map, unwrap_or, is_some, if◌then◌else◌, count_by}
use Rattle.gate_model.specs.declared.record.Moment.{Moment}
use Rattle.gate_model.specs.declared.downtime.Plan.{Plan}
use Rattle.gate_model.specs.declared.downtime.Scheduled.{Scheduled}
use Rattle.gate_model.specs.declared.downtime.Entry.{Entry}
use Rattle.gate_model.specs.declared.downtime.DowntimeEvent.{DowntimeEvent}
use Rattle.gate_model.specs.declared.downtime.DowntimeEvent.TheVariants.{Schedule, Delete, Transition}

-- ---- what was scheduled

-- the entries as they were scheduled, newest first; the first of all has the id `first`
abbrev pub scheduled_in : ℕ → List DowntimeEvent → List Scheduled
scheduled_in first [] = []
scheduled_in first (Schedule moment object plan ∷ before) =
    record { id = first + length (scheduled_in first before); object = object; plan = plan; moment = moment }
    ∷ scheduled_in first before
scheduled_in first (Delete moment id ∷ before) = scheduled_in first before
scheduled_in first (Transition moment place ∷ before) = scheduled_in first before

-- the entry has no trigger
abbrev pub is_untriggered : Plan → Bool
is_untriggered plan = plan.trigger == 0

-- ---- when an entry begins

-- a triggered entry begins with its trigger, or at its scheduling where that is later; a fixed one doesn't begin
-- any more at its end
abbrev pub begin_with : Entry → Option ℕ → Option ℕ
begin_with entry None = None
begin_with entry (Some trigger_begin) =
    if entry.scheduled.plan.fixed && nat_le entry.scheduled.plan.ends.0 (max trigger_begin entry.scheduled.moment.0)
    then None
    else Some (max trigger_begin entry.scheduled.moment.0)

-- an untriggered fixed entry begins at its start, or at its scheduling where that is later; an untriggered
-- flexible one at the transition that begins it
abbrev pub begin_alone : Entry → Option ℕ
begin_alone entry =
    if entry.scheduled.plan.fixed
    then Some (max entry.scheduled.plan.starts.0 entry.scheduled.moment.0)
    else option_map (λ (moment : Moment). moment.0) entry.transition

-- when the entry begins, given when its trigger does
abbrev pub begin_by : Entry → Option ℕ → Option ℕ
begin_by entry trigger_begin =
    if is_untriggered entry.scheduled.plan then begin_alone entry else begin_with entry trigger_begin

-- when the entry of this id begins, if it does, among entries that are listed newest first: a trigger is older
-- than what it triggers
abbrev pub begin_in : List Entry → ℕ → Option ℕ
begin_in [] id = None
begin_in (entry ∷ older) id =
    if entry.scheduled.id == id then begin_by entry (begin_in older entry.scheduled.plan.trigger) else begin_in older id

-- ---- when an entry is over

-- an entry that doesn't begin is over at its end; a triggered one whose trigger doesn't begin either is over with
-- its trigger, a fixed one at its end at the latest
abbrev pub over_unbegun : Entry → Option ℕ → Option ℕ → ℕ
over_unbegun entry trigger_begin trigger_over =
    if is_untriggered entry.scheduled.plan || is_some trigger_begin
    then entry.scheduled.plan.ends.0
    else (if entry.scheduled.plan.fixed
    then min entry.scheduled.plan.ends.0 (unwrap_or trigger_over 0)
    else unwrap_or trigger_over 0)

-- with a beginning a fixed entry is over at its end, and a flexible one after its duration
abbrev pub over_by : Entry → Option ℕ → Option ℕ → Option ℕ → ℕ
over_by entry (Some begin) trigger_begin trigger_over =
    if entry.scheduled.plan.fixed then entry.scheduled.plan.ends.0 else begin + entry.scheduled.plan.lasts
over_by entry None trigger_begin trigger_over = over_unbegun entry trigger_begin trigger_over

-- when the entry of this id is over, if there is one
abbrev pub over_in : List Entry → ℕ → Option ℕ
over_in [] id = None
over_in (entry ∷ older) id =
    if entry.scheduled.id == id
    then Some (
    over_by entry (begin_by entry (begin_in older entry.scheduled.plan.trigger))
    (begin_in older entry.scheduled.plan.trigger)
    (over_in older entry.scheduled.plan.trigger)
    )
    else over_in older id

-- ---- live and active

-- the entry of this id was deleted
abbrev pub is_deleted_in : List Entry → ℕ → Bool
is_deleted_in [] id = false
is_deleted_in (entry ∷ older) id = if entry.scheduled.id == id then entry.deleted else is_deleted_in older id

-- the moment is before the end
abbrev pub is_before : ℕ → Option ℕ → Bool
is_before moment None = false
is_before moment (Some over) = nat_lt moment over

-- there is a beginning, and it isn't later than the moment
abbrev pub is_begun_by : ℕ → Option ℕ → Bool
is_begun_by moment None = false
is_begun_by moment (Some begin) = nat_le begin moment

-- the entry of this id is live at this moment: it was scheduled, was not deleted, and isn't over yet
abbrev pub is_live_in : List Entry → ℕ → ℕ → Bool
is_live_in entries moment id = not (is_deleted_in entries id) && is_before moment (over_in entries id)

-- the entry of this id is active at this moment: it is live and has begun
abbrev pub is_active_in : List Entry → ℕ → ℕ → Bool
is_active_in entries moment id = is_live_in entries moment id && is_begun_by moment (begin_in entries id)

-- how many entries of the object at this place are active at this moment
abbrev pub depth_in : List Entry → ℕ → ℕ → ℕ
depth_in entries moment place =
    count_by (λ (entry : Entry). (entry.scheduled.object.place == place)
    && is_active_in entries moment entry.scheduled.id) entries

-- ---- transitions and deletions

-- a chain of triggers leads from the entry `from` to the entry `id`, and each entry of the chain is live
abbrev pub is_chained : (ℕ → Bool) → List Entry → ℕ → ℕ → Bool
is_chained live [] id from = false
is_chained live (entry ∷ older) id from =
    if entry.scheduled.id == from
    then live from && ((from == id) || is_chained live older id entry.scheduled.plan.trigger)
    else is_chained live older id from

-- a transition of the object at this place begins the entry at this moment: it is untriggered and flexible, and the
-- moment is in its window
abbrev pub begins_at : Scheduled → Moment → ℕ → Bool
begins_at scheduled moment place =
    not scheduled.plan.fixed && is_untriggered scheduled.plan && (scheduled.object.place == place)
    && nat_le scheduled.plan.starts.0 moment.0 && nat_lt moment.0 scheduled.plan.ends.0

-- the first of two
abbrev pub or_else : {A : Type 0} → Option A → Option A → Option A
or_else None second = second
or_else (Some first) second = Some first

-- the entries, each with the transition that begins it and whether it was deleted
abbrev pub entries_by : (Scheduled → Option Moment) → (ℕ → Bool) → List Scheduled → List Entry
entries_by transition deleted =
    map (λ (one : Scheduled). record { scheduled = one; transition = transition one; deleted = deleted one.id })

abbrev mutual
  -- the first transition that begins the entry: one later than its scheduling, and before it was deleted
  pub transition_of : List DowntimeEvent → ℕ → Scheduled → Option Moment
  transition_of [] first scheduled = None
  transition_of (Schedule moment object plan ∷ before) first scheduled = transition_of before first scheduled
  transition_of (Delete moment id ∷ before) first scheduled = transition_of before first scheduled
  transition_of (Transition moment place ∷ before) first scheduled =
      or_else (transition_of before first scheduled)
      (if nat_lt scheduled.id (first + length (scheduled_in first before)) && begins_at scheduled moment place
      && not (was_deleted before first scheduled.id)
      then Some moment
      else None)

  -- the entry of this id was deleted: by its own id or that of an entry to which a chain of triggers leads, all
  -- of the chain live when the deletion was judged
  pub was_deleted : List DowntimeEvent → ℕ → ℕ → Bool
  was_deleted [] first id = false
  was_deleted (Schedule moment object plan ∷ before) first id = was_deleted before first id
  was_deleted (Delete moment deleted ∷ before) first id =
      was_deleted before first id
      || (let entries =
      entries_by (transition_of before first) (was_deleted before first) (scheduled_in first before) in
      is_chained (is_live_in entries moment.0) entries deleted id)
  was_deleted (Transition moment place ∷ before) first id = was_deleted before first id

-- ---- the meaning of a history

-- the entries with what came of them, newest first; the first of all has the id `first`
abbrev pub entries_of : ℕ → List DowntimeEvent → List Entry
entries_of first history =
    entries_by (transition_of history first) (was_deleted history first) (scheduled_in first history)

-- when the entry of this id begins, in seconds, if it does
abbrev pub begin_of : ℕ → List DowntimeEvent → ℕ → Option ℕ
begin_of first history id = begin_in (entries_of first history) id

-- when the entry of this id is over, in seconds, if there is one
abbrev pub over_of : ℕ → List DowntimeEvent → ℕ → Option ℕ
over_of first history id = over_in (entries_of first history) id

-- the entry of this id is live at this moment
abbrev pub is_live : ℕ → List DowntimeEvent → Moment → ℕ → Bool
is_live first history moment id = is_live_in (entries_of first history) moment.0 id

-- the entry of this id is active at this moment
abbrev pub is_active : ℕ → List DowntimeEvent → Moment → ℕ → Bool
is_active first history moment id = is_active_in (entries_of first history) moment.0 id

-- how many entries of the object at this place are active at this moment
abbrev pub depth_of : ℕ → List DowntimeEvent → Moment → ℕ → ℕ
depth_of first history moment place = depth_in (entries_of first history) moment.0 place
