-- For proofs and private functions alone: the trigger of a new row.
use Rattle.std.specs.Prelude.{◌≡◌, ℕ, ◌+◌, ◌-◌, ◌<◌, ◌≤◌, ◌⊎◌, ◌==◌, Bool, true, List, length, slice_index_or, Some, None, if◌then◌else◌}
use Rattle.gate_model.specs.declared.downtime.Scheduled.{Scheduled}
use Rattle.gate_downtime.specs.declared.row.Row.{Row}
use Rattle.gate_downtime.specs.inner.Rows.{live_at}
use Rattle.gate_downtime.specs.declared.scheduling.Trigger.{Trigger}

-- the trigger found is the row of the id x, with its beginning, its end and its mark
pub record IsTriggerRow (first : ℕ) (rows : List Row) (x : ℕ) (found : Trigger) : Type 0 where
  pub low : first ≤ x
  pub high : x < first + length rows
  pub at : found.at ≡ Some (x - first)
  pub begun : (e : Row) → found.begun ≡ (slice_index_or rows (x - first) e).begun
  pub over : (e : Row) → found.over ≡ (slice_index_or rows (x - first) e).over
  pub settled : (e : Row) → found.settled ≡ (slice_index_or rows (x - first) e).settled

-- the trigger found is the one that a schedule names by x: none for 0, and else the row of that id
abbrev pub IsTrigger : ℕ → List Row → ℕ → Trigger → Type 0
IsTrigger first rows x found = ((x ≡ 0) × (found.at ≡ None)) ⊎ IsTriggerRow first rows x found

-- no transition can change the beginning of the new entry
abbrev pub settled_by : Scheduled → Trigger → Bool
settled_by scheduled trigger = if scheduled.plan.trigger == 0 then scheduled.plan.fixed else trigger.settled

-- the row at this index has this id, and is live
pub record IsLiveAt (first : ℕ) (rows : List Row) (now id at : ℕ) : Type 0 where
  pub within : at < length rows
  pub id_is : first + at ≡ id
  pub live : (d : Row) → live_at now (slice_index_or rows at d) ≡ true
