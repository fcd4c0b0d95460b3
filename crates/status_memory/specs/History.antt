-- Since when each object of a gateway has its state, the changes of states, and by which result an object is shown that is
-- PENDING after one (`shown_row`): what is kept of all pages seen (`IsHistoryOf`). Of a list of pages the first is the
-- newest. Own rules.
use Rattle.std.specs.Prelude.{◌≡◌, ℕ, ◌-◌, ◌&&◌, ◌||◌, not, nat_lt, Bool, true, false, length, count_by, is_some, List, [], ◌∷◌, ◌++◌, map, filter, find, Option, Some, None, unwrap_or, if◌then◌else◌}
use Rattle.std.specs.List.{flat_map, take_while, last_or, list_all}
use Rattle.std.specs.Option.{option_map, option_map_or}
use Rattle.std.specs.Str.{bytes_eq}
use Rattle.circular_buffer.specs.Buffer.{keep_last}
use Rattle.gate_model.specs.declared.state.State.{State}
use Rattle.gate_model.specs.declared.state.State.TheVariants.{Pending}
use Rattle.gate_model.specs.State.{is_problem, is_same_state}
use Rattle.status_reading.specs.declared.rows.ShownAcknowledgement.{ShownAcknowledgement}
use Rattle.status_reading.specs.Rows.{ObjectView, PageView}
use Rattle.status_memory.specs.declared.history.ShownResult.{ShownResult}
use Rattle.status_memory.specs.declared.history.StateChange.{StateChange}
use Rattle.status_memory.specs.declared.history.Since.{Since}

-- ---- plain values

-- what a page shows of an object by its last result, and since when it has that state
pub record ResultView : Type 0 where
  pub state : State
  pub last : Option ℕ
  pub acknowledgement : ShownAcknowledgement
  pub output : List ℕ
  pub since : Since

-- an object of the last page: its state there, and since when it has it; its last result on all pages; whether it is shown
-- by that, which is of an earlier page; and whether its gateway calls it stale
pub record KnownView : Type 0 where
  pub host : List ℕ
  pub service : List ℕ
  pub state : State
  pub since : Since
  pub result : Option ResultView
  pub is_held : Bool
  pub is_stale : Bool

-- a change of an object's state, with the moment of the page that shows it first. An object without a result before has no
-- state before.
pub record ChangeView : Type 0 where
  pub moment : ℕ
  pub host : List ℕ
  pub service : List ℕ
  pub from : Option State
  pub to : State

-- what is kept
pub record HistoryView : Type 0 where
  pub has_page : Bool
  pub is_other : Bool
  pub known : List KnownView
  pub changes : List ChangeView

abbrev pub change_view : StateChange → ChangeView
change_view change = record {
  moment = change.moment;
  host = change.host.items;
  service = change.service.items;
  from = change.from;
  to = change.to;
}

abbrev pub result_view : ShownResult → ResultView
result_view result = record {
  state = result.state;
  last = result.last;
  acknowledgement = result.acknowledgement;
  output = result.output.items;
  since = result.since;
}

-- ---- since when

-- whether a row is that of the object of these names
abbrev pub is_of : List ℕ → List ℕ → ObjectView → Bool
is_of host service row = bytes_eq row.host host && bytes_eq row.service service

-- the row of an object on a page, where the page shows it
abbrev pub row_on : List ℕ → List ℕ → PageView → Option ObjectView
row_on host service page = find (is_of host service) page.objects

-- its state there
abbrev pub state_on : List ℕ → List ℕ → PageView → Option State
state_on host service page = option_map (λ (row : ObjectView). row.state) (row_on host service page)

-- whether a page shows an object in a state
abbrev pub shows : List ℕ → List ℕ → State → PageView → Bool
shows host service state page = option_map_or (λ shown. is_same_state shown state) (state_on host service page) false

-- whether a state goes on by a page: the page shows the object in it, or without a result
abbrev pub goes_on : List ℕ → List ℕ → State → PageView → Bool
goes_on host service state page = shows host service state page || shows host service Pending page

-- of these pages the unbroken run, from the newest on, of those that show an object in a state; a page that shows it as
-- PENDING breaks none
abbrev pub run_of : List ℕ → List ℕ → State → List PageView → List PageView
run_of host service state pages = filter (shows host service state) (take_while (goes_on host service state) pages)

-- the moment of the first page of the unbroken run, and that of the page itself where none before it shows the state
abbrev pub first_moment : List PageView → ℕ → ObjectView → ℕ
first_moment before moment row =
    unwrap_or
    (last_or None (map (λ (page : PageView). page.moment) (run_of row.host row.service row.state before)))
    moment

-- whether the run begins with the first page of all
abbrev pub is_from_first : List ℕ → List ℕ → State → List PageView → Bool
is_from_first host service state before =
    list_all (goes_on host service state) before
    && unwrap_or (last_or None (map (shows host service state) before)) true

-- since when an object of a page at this moment has its state, by the pages before it: that moment; and at least so long
-- where the run begins with the first page
abbrev pub since_of : List PageView → ℕ → ObjectView → Since
since_of before moment row = record {
  moment = first_moment before moment row;
  at_least = is_from_first row.host row.service row.state before;
  is_held = false;
}

-- ---- by which result an object is shown

abbrev pub is_pending : State → Bool
is_pending state = is_same_state state Pending

-- the result of a row of a page at this moment, by the pages before it
abbrev pub result_on : List PageView → ℕ → ObjectView → ResultView
result_on before moment row = record {
  state = row.state;
  last = row.last;
  acknowledgement = row.acknowledgement;
  output = row.output;
  since = since_of before moment row;
}

-- the last result of an object: that on the newest of these pages which doesn't show it as PENDING
abbrev pub result_of : List ℕ → List ℕ → List PageView → Option ResultView
result_of host service [] = None
result_of host service (page ∷ before) =
    if shows host service Pending page then result_of host service before
    else option_map (result_on before page.moment) (row_on host service page)

-- whether an object that a page at this moment shows as PENDING is shown by its last result: for an hour from the first
-- page on that shows it so, and for as long as its gateway calls it stale
abbrev pub is_held : List PageView → ℕ → ObjectView → Bool
is_held before moment row =
    is_pending row.state && is_some (result_of row.host row.service before)
    && (row.stale || nat_lt (moment - first_moment before moment row) 3600)

-- that result, where it is
abbrev pub held_result : List PageView → ℕ → ObjectView → Option ResultView
held_result before moment row = if is_held before moment row then result_of row.host row.service before else None

-- a row by an earlier result, which is stale. Its downtime is that of the row's own page.
abbrev pub by_result : ObjectView → Option ResultView → ObjectView
by_result row None = row
by_result row (Some result) = record row {
  state = result.state;
  last = result.last;
  stale = true;
  acknowledgement = result.acknowledgement;
  output = result.output;
}

-- the row by which an object of a page at this moment is shown
abbrev pub shown_row : List PageView → ℕ → ObjectView → ObjectView
shown_row before moment row = by_result row (held_result before moment row)

-- since when it has the state that is shown, and whether that is held though its gateway doesn't call it stale
abbrev pub shown_since : List PageView → ℕ → ObjectView → Since
shown_since before moment row = elim (held_result before moment row) [
  | None ↦ since_of before moment row
  | Some result ↦ record result.since { is_held = not row.stale }
]

-- the rows of a page, each by its earlier result, where it has one
abbrev pub shown_rows : List ObjectView → List (Option ResultView) → List ObjectView
shown_rows [] results = []
shown_rows (row ∷ rows) [] = row ∷ rows
shown_rows (row ∷ rows) (result ∷ results) = by_result row result ∷ shown_rows rows results

-- ---- the objects of the newest page

-- the last result of an object after a page at this moment has this row of it
abbrev pub last_result : List PageView → ℕ → ObjectView → Option ResultView
last_result before moment row =
    if is_pending row.state then result_of row.host row.service before else Some (result_on before moment row)

-- an object of a page at this moment, by the pages before it
abbrev pub known_on : List PageView → ℕ → ObjectView → KnownView
known_on before moment row = record {
  host = row.host;
  service = row.service;
  state = row.state;
  since = since_of before moment row;
  result = last_result before moment row;
  is_held = is_held before moment row;
  is_stale = row.stale;
}

-- the objects of the newest page
abbrev pub known_of : List PageView → List KnownView
known_of [] = []
known_of (page ∷ before) = map (known_on before page.moment) page.objects

-- ---- changes

-- whether a state is a change from that of the last result before it: PENDING is none; where there is no result before it,
-- a problem is
abbrev pub is_change : Option State → State → Bool
is_change None state = is_problem state
is_change (Some before) state = not (is_pending state) && not (is_same_state before state)

-- the state of an object by its last result on these pages
abbrev pub state_before : List ℕ → List ℕ → List PageView → Option State
state_before host service pages = option_map (λ (result : ResultView). result.state) (result_of host service pages)

-- the change of an object whose row a page has at this moment, from its state before
abbrev pub change_from : ℕ → ObjectView → Option State → List ChangeView
change_from moment row before =
    if is_change before row.state
    then (record { moment = moment; host = row.host; service = row.service; from = before; to = row.state }) ∷ []
    else []

-- the changes that a page shows after these pages, in the order of its objects
abbrev pub changes_after : List PageView → PageView → List ChangeView
changes_after pages page =
    flat_map (λ row. change_from page.moment row (state_before row.host row.service pages)) page.objects

-- the changes that each page shows after the first, the oldest first
abbrev pub changes_of : List PageView → List ChangeView
changes_of [] = []
changes_of (page ∷ []) = []
changes_of (page ∷ before ∷ earlier) = changes_of (before ∷ earlier) ++ changes_after (before ∷ earlier) page

-- ---- other objects

-- how many objects of a page the one before it shows
abbrev pub shared : PageView → PageView → ℕ
shared before page = count_by (λ (row : ObjectView). is_some (state_on row.host row.service before)) page.objects

-- of a page's objects fewer are on the page before it than not: these are less than half
abbrev pub is_other : PageView → PageView → Bool
is_other before page = nat_lt (shared before page) (length page.objects - shared before page)

-- so it is of the newest page, where there is one before it
abbrev pub is_other_in : List PageView → Bool
is_other_in [] = false
is_other_in (page ∷ []) = false
is_other_in (page ∷ before ∷ earlier) = is_other before page

-- ---- what is kept

-- whether there is a page
abbrev pub has_page : List PageView → Bool
has_page [] = false
has_page (page ∷ before) = true

-- this is kept of these pages: whether there is one, and has other objects than the one before it, the objects of the
-- newest, and the last 1,000 changes
pub record IsHistoryOf (pages : List PageView) (history : HistoryView) : Type 0 where
  pub has_page : history.has_page ≡ has_page pages
  pub is_other : history.is_other ≡ is_other_in pages
  pub known : history.known ≡ known_of pages
  pub changes : history.changes ≡ keep_last 1000 (changes_of pages)
