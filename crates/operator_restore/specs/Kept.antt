-- The gateway that wrote a kept log, as its last record left it: `IsKept`; why no gateway over these objects wrote it:
-- `IsKeptFault`. Of a log the records that took effect count, each at its own moment.
use Rattle.std.specs.Prelude.{◌≡◌, ◌<◌, ℕ, List, length, true, false}
use Rattle.std.specs.List.{list_all}
use Rattle.gate_model.specs.declared.object.ObjectLine.{ObjectLine}
use Rattle.gate_model.specs.declared.record.Moment.{Moment}
use Rattle.gate_model.specs.declared.record.Record.{Record}
use Rattle.gate_model.specs.Record.{later, is_accepted}
use Rattle.gate_table.specs.Faults.{IsFaultless}
use Rattle.gate_model.specs.Meaning.{outcomes_of}
use Rattle.gate_applier.specs.Applier.{ApplierView}
use Rattle.gate_foresight.specs.Foresight.{applied_from, moment_after}
use Rattle.log_reading.specs.declared.logged.Logged.{Logged}
use Rattle.log_reading.specs.Faults.{IsFaultOf}
use Rattle.log_reading.specs.Log.{logged_text, accepted_in}
use Rattle.operator_restore.specs.declared.kept.KeptFault.{KeptFault}
use Rattle.operator_restore.specs.declared.kept.KeptFault.TheVariants.{BadTable, BadLog, OtherGateway, TooMany, OutOfMemory}

-- the moment before all others
abbrev pub opening : Moment
opening = record { 0 = 0 }

-- the applier has these objects and the records of this log page that took effect, all of which do, and stands at this
-- moment, or at that of the last record
pub record IsKept (table : List ObjectLine) (text : List ℕ) (now : Moment) (kept : ApplierView) : Type 0 where
  pub log : List Logged
  pub written : text ≡ logged_text log
  pub opened : kept.opening ≡ opening
  pub objects : kept.table ≡ table
  pub records : kept.records ≡ applied_from opening (accepted_in log)
  pub moment : kept.moment ≡ later (moment_after opening (accepted_in log)) now
  pub accepted : list_all is_accepted (outcomes_of kept.table kept.records) ≡ true

-- the text is a log page whose records that took effect are so
abbrev pub IsLogOf : List ℕ → (List Record → Type 0) → Type 0
IsLogOf text AreSo = (log : List Logged) × (text ≡ logged_text log) × AreSo (accepted_in log)

-- why no gateway over these objects wrote this log page; memory may run out at any
abbrev pub IsKeptFault : List ObjectLine → List ℕ → KeptFault → Type 0
IsKeptFault table text BadTable = ⊥
IsKeptFault table text (BadLog fault) = IsFaultOf text fault
IsKeptFault table text OtherGateway =
    IsLogOf text (λ records. list_all is_accepted (outcomes_of table (applied_from opening records)) ≡ false)
IsKeptFault table text TooMany = IsLogOf text (λ records. 1000000 < length records)
IsKeptFault table text OutOfMemory = Unit {0}

-- the same of objects that may be no table
abbrev pub IsGatewayFault : List ObjectLine → List ℕ → KeptFault → Type 0
IsGatewayFault lines text BadTable = ¬ IsFaultless lines
IsGatewayFault lines text fault = IsKeptFault lines text fault
