-- For proofs and private functions alone: the outcome of a row that was found, or why none was.
use Rattle.std.specs.Prelude.{Result, Ok, Err}
use Rattle.gate_model.specs.declared.record.Outcome.{Outcome}
use Rattle.status_reading.specs.declared.rows.ShownObject.{ShownObject}
use Rattle.status_reading.specs.Rows.{ObjectView, object_view}

abbrev pub judged : (ObjectView → Outcome) → Result ShownObject Outcome → Outcome
judged judge (Ok row) = judge (object_view row)
judged judge (Err outcome) = outcome
