-- Which gate it is. Own rules.
use Rattle.std.specs.Prelude.{ℕ}
use Rattle.atomic_table.specs.Seated.{TableId}
use Rattle.gate_core.specs.Limits.{Limits}

-- which gate it is: its queue, its close cell, and the limits with which it was opened
pub record GateId : Type 0 where
  pub queue : TableId
  pub cell : ℕ
  pub limits : Limits

abbrev pub gate_id : TableId → ℕ → Limits → GateId
gate_id queue cell limits = record { queue = queue; cell = cell; limits = limits }
