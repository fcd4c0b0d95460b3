-- What the proofs of private functions alone need: the next page against what is known.
use Rattle.std.specs.Prelude.{ℕ, ◌-◌, ◌&&◌, ◌||◌, not, nat_lt, Bool, false, List, [], map, find, count_by, is_some, Option, Some, None, if◌then◌else◌}
use Rattle.std.specs.Borrow.{Bor}
use Rattle.std.specs.List.{flat_map, list_any}
use Rattle.std.specs.Option.{option_map}
use Rattle.std.specs.Str.{bytes_eq}
use Rattle.gate_model.specs.declared.state.State.{State}
use Rattle.gate_model.specs.State.{is_same_state}
use Rattle.std.specs.HashMap.{HashMap, get}
use Rattle.status_reading.specs.declared.rows.ShownObject.{ShownObject}
use Rattle.status_reading.specs.Rows.{ObjectView, object_view}
use Rattle.status_memory.specs.declared.history.Known.{Known}
use Rattle.status_memory.specs.declared.history.Since.{Since}
use Rattle.status_memory.specs.declared.history.ShownResult.{ShownResult}
use Rattle.status_memory.specs.History.{KnownView, ResultView, ChangeView, result_view, is_pending, change_from}

abbrev pub known_view : Known → KnownView
known_view known = record {
  host = known.host.items;
  service = known.service.items;
  state = known.state;
  since = known.since;
  result = option_map result_view known.result;
  is_held = known.is_held;
  is_stale = known.is_stale;
}

-- the same of one that is lent
abbrev pub lent_view : Bor Known → KnownView
lent_view known = known_view known.now

abbrev pub lent_result : Bor ShownResult → ResultView
lent_result result = result_view result.now

-- a key of the map of what is known
abbrev pub Key : Type 0
Key = Bor (List ℕ) × Bor (List ℕ)

abbrev pub same_key : Key → Key → Bool
same_key one other = bytes_eq one.0.now other.0.now && bytes_eq one.1.now other.1.now

-- what is known of the object of these names
abbrev pub standing_in : List KnownView → List ℕ → List ℕ → Option KnownView
standing_in known host service =
    find (λ (one : KnownView). bytes_eq one.host host && bytes_eq one.service service) known

-- since when an object has a state that begins with a page of this moment, after others or as the first
abbrev pub since_now : Bool → ℕ → Since
since_now had moment = record { moment = moment; at_least = not had; is_held = false }

-- since when the object has this state on such a page, by its last result
abbrev pub since_result : Bool → Option ResultView → State → ℕ → Since
since_result had None state moment = since_now had moment
since_result had (Some result) state moment =
    if is_same_state result.state state then result.since else since_now had moment

-- the same by what is known of it
abbrev pub since_after : Bool → Option KnownView → State → ℕ → Since
since_after had None state moment = since_now had moment
since_after had (Some known) state moment =
    if is_same_state known.state state then known.since else since_result had known.result state moment

-- the last result of an object
abbrev pub result_in : Option KnownView → Option ResultView
result_in None = None
result_in (Some known) = known.result

-- its state
abbrev pub state_of : Option KnownView → Option State
state_of standing = option_map (λ (result : ResultView). result.state) (result_in standing)

-- the result of a row, with since when it has its state
abbrev pub result_with : Since → ObjectView → ResultView
result_with since row = record {
  state = row.state;
  last = row.last;
  acknowledgement = row.acknowledgement;
  output = row.output;
  since = since;
}

-- the last result after a row whose state the object has since then
abbrev pub result_after : Option KnownView → Since → ObjectView → Option ResultView
result_after standing since row = if is_pending row.state then result_in standing else Some (result_with since row)

-- whether the object is shown by its last result, where it has the row's state since this moment
abbrev pub held_after : Option KnownView → ℕ → ℕ → ObjectView → Bool
held_after standing from moment row =
    is_pending row.state && is_some (result_in standing) && (row.stale || nat_lt (moment - from) 3600)

-- an object of a page at this moment, which has the state of its row since then
abbrev pub known_since : Option KnownView → Since → ℕ → ObjectView → KnownView
known_since standing since moment row = record {
  host = row.host;
  service = row.service;
  state = row.state;
  since = since;
  result = result_after standing since row;
  is_held = held_after standing since.moment moment row;
  is_stale = row.stale;
}

abbrev pub known_with : Bool → Option KnownView → ℕ → ObjectView → KnownView
known_with had standing moment row = known_since standing (since_after had standing row.state moment) moment row

-- by which earlier result an object is shown, and since when it has the state that is shown
abbrev pub held_in : KnownView → Option ResultView
held_in known = if known.is_held then known.result else None

abbrev pub since_in : KnownView → Since
since_in known = elim (held_in known) [
  | None ↦ known.since
  | Some result ↦ record result.since { is_held = not known.is_stale }
]

-- those of all objects; none where no object is so shown
abbrev pub all_held : List KnownView → List (Option ResultView)
all_held known = if list_any (λ (one : KnownView). one.is_held) known then map held_in known else []

-- these changes where there is a page before
abbrev pub changes_if : Bool → List ChangeView → List ChangeView
changes_if had changes = if had then changes else []

-- ---- by the map

-- what the map has of the object of a row
abbrev pub standing_at : {S : Type 0} → HashMap Key (Bor Known) S → ShownObject → Option KnownView
standing_at found row = option_map lent_view (get same_key found (row.host, row.service))

abbrev pub known_at : {S : Type 0} → Bool → HashMap Key (Bor Known) S → ℕ → ShownObject → KnownView
known_at had found moment row = known_with had (standing_at found row) moment (object_view row)

abbrev pub change_at : {S : Type 0} → HashMap Key (Bor Known) S → ℕ → ShownObject → List ChangeView
change_at found moment row = change_from moment (object_view row) (state_of (standing_at found row))

-- ---- by the list

abbrev pub known_after : Bool → List KnownView → ℕ → ShownObject → KnownView
known_after had known moment row =
    known_with had (standing_in known row.host.now row.service.now) moment (object_view row)

abbrev pub change_after : List KnownView → ℕ → ShownObject → List ChangeView
change_after known moment row =
    change_from moment (object_view row) (state_of (standing_in known row.host.now row.service.now))

-- how many of these rows are known
abbrev pub shared_with : List KnownView → List ShownObject → ℕ
shared_with known rows =
    count_by (λ (row : ShownObject). is_some (standing_in known row.host.now row.service.now)) rows

-- all objects of a page, and all changes
abbrev pub all_known : Bool → List KnownView → ℕ → List ShownObject → List KnownView
all_known had known moment rows = map (known_after had known moment) rows

abbrev pub all_changes : List KnownView → ℕ → List ShownObject → List ChangeView
all_changes known moment rows = flat_map (change_after known moment) rows
