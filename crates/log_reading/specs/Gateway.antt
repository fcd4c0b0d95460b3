-- What a gateway logs: `IsLogged`. Its table is faultless by `ObjectTable::build`, its records are at most 1,000,000 by
-- `Applier::records` and `Applier::limit`, and they are of submissions by the sessions that gate_reader defines. Own
-- rule: that number, which no client's numbers pass, since they are counted from 1.
use Rattle.std.specs.Prelude.{◌≤◌, List, length}
use Rattle.std.specs.List.{AllByRecursion}
use Rattle.gate_model.specs.declared.record.Record.{Record}
use Rattle.gate_model.specs.declared.object.ObjectLine.{ObjectLine}
use Rattle.gate_table.specs.Faults.{IsFaultless}
use Rattle.gate_grammar.specs.Writability.{AreInRange}
use Rattle.status_reading.specs.Gateway.{IsSubmission}
use Rattle.log_reading.specs.Log.{IsStamped}

-- a record of a submission, whose numbers are of their range
pub record IsLoggedRecord (applied : Record) : Type 0 where
  pub submission : IsSubmission applied.item.body
  pub range : AreInRange applied.item.body
  pub stamped : IsStamped applied.moment applied.item.client applied.item.number

-- a gateway over this table can have these records
pub record IsLogged (table : List ObjectLine) (records : List Record) : Type 0 where
  pub faultless : IsFaultless table
  pub few : length records ≤ 1000000
  pub each : AllByRecursion IsLoggedRecord records
