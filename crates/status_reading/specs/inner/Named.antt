-- For proofs and private functions alone: the names of a row, a table's fault as that of its page, and the counts of
-- active entries.
use Rattle.std.specs.Prelude.{◌≡◌, ◌<◌, ◌&&◌, ℕ, Bool, List, length, get_or, count_by, is_some}
use Rattle.gate_model.specs.declared.object.ObjectLine.{ObjectLine}
use Rattle.gate_table.specs.declared.table.TableFault.{TableFault}
use Rattle.gate_table.specs.Faults.{IsFaultOf}
use Rattle.status_reading.specs.declared.page.ReadFault.{ReadFault}
use Rattle.status_reading.specs.declared.page.ReadFault.TheVariants.{OutOfMemory}
use Rattle.status_reading.specs.declared.row_faults.Named.{Named}
use Rattle.status_reading.specs.declared.rows.ShownDowntime.{ShownDowntime}
use Rattle.status_reading.specs.RowFaults.{NamedView, table_fault, place_on, is_place}

-- the id and the names that a value has
abbrev pub named_view : Named → NamedView
named_view row = record { id = row.id; host = row.host.now; service = row.service.now }

-- the fault is that of these lines, or memory ran out
abbrev pub IsNoTableOf : List ObjectLine → ReadFault → Type 0
IsNoTableOf lines OutOfMemory = Unit {0}
IsNoTableOf lines fault = (cause : TableFault) × (IsFaultOf lines cause × (fault ≡ table_fault cause))

-- the entry has begun, and is of the object at this place
abbrev pub counts_for : List ObjectLine → ℕ → ShownDowntime → Bool
counts_for table place row = is_some row.begin && is_place place (place_on table row.host.now row.service.now)

-- these are the counts of the first entries, at each place of the table
pub record AreCounts (table : List ObjectLine) (entries : List ShownDowntime) (counts : List ℕ) : Type 0 where
  pub long : length counts ≡ length table
  pub each : (place : ℕ) → place < length table → get_or counts place 0 ≡ count_by (counts_for table place) entries
