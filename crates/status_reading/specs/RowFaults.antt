-- Which rows no gateway writes, though the line of each is one of a page: a page that `IsSound` has none of them. By
-- their names, without the page's escapes, its objects are a table (gate_model, Table); each has a state of its kind
-- (Nagios Core 4 manual, Passive Checks) and the depth that is the number of its active downtime entries (Nagios Core 4
-- manual, Scheduled Downtime); each comment and each entry is of one of the objects, and ids ascend.
-- Own rule: the faults of the table come first, then those of the rows in their order.
use Rattle.std.specs.Prelude.{◌≡◌, ℕ, ◌+◌, ◌==◌, nat_lt, ◌⊎◌, Bool, false, not, ◌&&◌, List, [], ◌∷◌, ◌++◌, map, count_by, Option, Some, None, is_some, is_none, codes, if◌then◌else◌}
use Rattle.std.specs.List.{list_any, enumerate_from}
use Rattle.gate_model.specs.declared.object.Kind.{Kind}
use Rattle.gate_model.specs.declared.object.Kind.TheVariants.{Host, Service}
use Rattle.gate_model.specs.declared.object.ObjectLine.{ObjectLine}
use Rattle.gate_model.specs.declared.state.State.{State}
use Rattle.gate_model.specs.declared.state.State.TheVariants.{Pending, Ok, Warning, Critical, Unknown, Up, Down, Unreachable}
use Rattle.gate_table.specs.declared.table.TableFault.{TableFault}
use Rattle.gate_table.specs.declared.table.TableFault.TheVariants as table
use Rattle.gate_model.specs.State.{is_same_state}
use Rattle.gate_model.specs.Table.{object_kind, place_of}
use Rattle.gate_table.specs.Faults.{IsFaultless, IsFaultOf}
use Rattle.status_reading.specs.declared.row_faults.RowFault.{RowFault}
use Rattle.status_reading.specs.declared.row_faults.RowFault.TheVariants.{BadName, NoSuchHost, Twice, TooMany, WrongState, WrongDepth, NoSuchObject, WrongOrder}
use Rattle.status_reading.specs.declared.page.ReadFault.{ReadFault}
use Rattle.status_reading.specs.declared.page.ReadFault.TheVariants.{NoStatus, BadLine, BadRow, OutOfMemory}
use Rattle.status_reading.specs.Plain.{plain_bytes}
use Rattle.status_reading.specs.Rows.{ObjectView, CommentView, DowntimeView, PageView}

-- a fault in words
abbrev pub row_fault_words : RowFault → List ℕ
row_fault_words BadName = codes "a name that no object has"
row_fault_words NoSuchHost = codes "a service without its host before it"
row_fault_words Twice = codes "an object that has a line before it"
row_fault_words TooMany = codes "more objects than a gateway has"
row_fault_words WrongState = codes "a state that the object can't have"
row_fault_words WrongDepth = codes "a depth that isn't the number of the object's active downtime entries"
row_fault_words NoSuchObject = codes "an object that the page doesn't have"
row_fault_words WrongOrder = codes "an id that isn't above the one before it"

-- ---- the objects as a table

-- the name of a service; a host has none
abbrev pub service_name : List ℕ → Option (List ℕ)
service_name [] = None
service_name (byte ∷ rest) = Some (plain_bytes (byte ∷ rest))

-- an object's line in a table; a page shows no threshold
abbrev pub line_of : ObjectView → ObjectLine
line_of row = record { host = plain_bytes row.host; service = service_name row.service; threshold = 0 }

-- the table of the objects of a page
abbrev pub table_of : PageView → List ObjectLine
table_of page = map line_of page.objects

-- the place of the object of these names
abbrev pub place_on : List ObjectLine → List ℕ → List ℕ → Option ℕ
place_on table host service = place_of table (plain_bytes host) (service_name service)

-- the fault of a page whose objects are no table for this cause: the line of the page is one more than that of the table
abbrev pub table_fault : TableFault → ReadFault
table_fault (table.BadName number) = BadRow (number + 1) BadName
table_fault (table.NoSuchHost number) = BadRow (number + 1) NoSuchHost
table_fault (table.DuplicateHost number) = BadRow (number + 1) Twice
table_fault (table.DuplicateService number) = BadRow (number + 1) Twice
table_fault (table.TooMany number) = BadRow (number + 1) TooMany
table_fault table.OutOfMemory = OutOfMemory

-- ---- objects

-- an object without a result is PENDING, and a result leaves a state of the object's kind
abbrev pub is_state_of : Option ℕ → Kind → State → Bool
is_state_of None kind state = is_same_state state Pending
is_state_of (Some last) Host state = list_any (is_same_state state) (Up ∷ Down ∷ Unreachable ∷ [])
is_state_of (Some last) Service state = list_any (is_same_state state) (Ok ∷ Warning ∷ Critical ∷ Unknown ∷ [])

-- it is this place
abbrev pub is_place : ℕ → Option ℕ → Bool
is_place place None = false
is_place place (Some found) = found == place

-- how many downtime entries of the object at this place are active: they have begun
abbrev pub active_at : List ObjectLine → List DowntimeView → ℕ → ℕ
active_at table downtimes place =
    count_by (λ (row : DowntimeView). is_some row.begin && is_place place (place_on table row.host row.service)) downtimes

-- what is wrong with the row of an object of which this many entries are active
abbrev pub object_fault : ℕ → ObjectView → Option RowFault
object_fault active row =
    if not (is_state_of row.last (object_kind (service_name row.service)) row.state) then Some WrongState
    else (if row.depth == active then None else Some WrongDepth)

-- ---- comments and downtime entries

-- an id, with the names of its object
pub record NamedView : Type 0 where
  pub id : ℕ
  pub host : List ℕ
  pub service : List ℕ

-- those of a comment
abbrev pub comment_names : CommentView → NamedView
comment_names row = record { id = row.id; host = row.host; service = row.service }

-- those of a downtime entry
abbrev pub downtime_names : DowntimeView → NamedView
downtime_names row = record { id = row.id; host = row.host; service = row.service }

-- what is wrong with a row after one of this id
abbrev pub id_fault : List ObjectLine → ℕ → NamedView → Option RowFault
id_fault table last row =
    if is_none (place_on table row.host row.service) then Some NoSuchObject
    else (if nat_lt last row.id then None else Some WrongOrder)

-- what is wrong with each of these rows, which come after one of this id
abbrev pub id_faults : List ObjectLine → ℕ → List NamedView → List (Option RowFault)
id_faults table last [] = []
id_faults table last (row ∷ rows) = id_fault table last row ∷ id_faults table row.id rows

-- ---- the page

-- what is wrong with each row of a page, in their order
abbrev pub row_faults : List ObjectLine → PageView → List (Option RowFault)
row_faults table page =
    map (λ (one : ℕ × ObjectView). object_fault (active_at table page.downtimes one.0) one.1) (enumerate_from 0 page.objects)
    ++ id_faults table 0 (map comment_names page.comments)
    ++ id_faults table 0 (map downtime_names page.downtimes)

-- the first fault, and the number of its line; the first row's line has this number
abbrev pub first_from : ℕ → List (Option RowFault) → Option (ℕ × RowFault)
first_from line [] = None
first_from line (None ∷ faults) = first_from (line + 1) faults
first_from line (Some fault ∷ faults) = Some (line, fault)

-- no row has a fault
pub record IsSound (page : PageView) : Type 0 where
  pub table : IsFaultless (table_of page)
  pub rows : first_from 2 (row_faults (table_of page) page) ≡ None

-- the objects are no table, for this cause
pub record IsNoTable (page : PageView) (fault : ReadFault) : Type 0 where
  pub cause : TableFault
  pub here : IsFaultOf (table_of page) cause
  pub fault_is : fault ≡ table_fault cause

-- the objects are a table, and this row is the first with a fault
pub record IsFirstRow (page : PageView) (line : ℕ) (fault : RowFault) : Type 0 where
  pub table : IsFaultless (table_of page)
  pub here : first_from 2 (row_faults (table_of page) page) ≡ Some (line, fault)

-- the page has this fault; memory may run out at any
abbrev pub IsUnsound : PageView → ReadFault → Type 0
IsUnsound page NoStatus = ⊥
IsUnsound page (BadLine number) = ⊥
IsUnsound page (BadRow line fault) = IsNoTable page (BadRow line fault) ⊎ IsFirstRow page line fault
IsUnsound page OutOfMemory = Unit {0}
