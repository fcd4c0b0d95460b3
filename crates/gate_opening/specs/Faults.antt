-- What a gateway that did not finish reports. Own rules.
use Rattle.std.specs.Prelude.{◌≡◌, ℕ, ◌+◌, ◌<◌, List, ◌∷◌, ◌++◌, length, true, false}
use Rattle.gate_model.specs.declared.object.ObjectLine.{ObjectLine}
use Rattle.gate_model.specs.declared.submission.Numbered.{Numbered}
use Rattle.gate_model.specs.Record.{items_of_records}
use Rattle.gate_core.specs.Limits.{default_quota, IsOpenFault}
use Rattle.gate_core.specs.Merge.{IsMerge}
use Rattle.gate_applier.specs.Applier.{ApplierView, is_limit}
use Rattle.gate_applier.specs.declared.applier.OpenCause.TheVariants.{BadLimit}
use Rattle.gate_queue.specs.Gate.{GateId}
use Rattle.gate_close.specs.declared.drained_close.CloseAllCause.{CloseAllCause}
use Rattle.gate_close.specs.declared.drained_close.CloseAllCause.TheVariants as cause
use Rattle.gate_close.specs.DrainedClose.{queued_by, CloseParts, close_parts, CanClose, LeavesSome}
use Rattle.gate_worker.specs.Answered.{reports_of_each, queued_by_each, HoldsAll}
use Rattle.gate_opening.specs.declared.fault.GatewayFault.{GatewayFault}
use Rattle.gate_opening.specs.declared.fault.GatewayFault.TheVariants as fault

-- the log, followed by at least one item that is left, holds what the clients were answered is queued
pub record LosesNothing (workers : ℕ) (queued : List (ℕ × List ℕ)) (log : List Numbered) : Type 0 where
  pub next : Numbered
  pub rest : List Numbered
  pub holds : HoldsAll workers queued (log ++ next ∷ rest)

-- no client is missing, the gate is closing, and nothing is lost where the log is full or memory is missing
abbrev pub IsDrainFault : ℕ → CloseAllCause → List (ℕ × List ℕ) → ApplierView → Type 0
IsDrainFault workers (cause.Missing client) queued applier = ⊥
IsDrainFault workers cause.NotClosing queued applier = ⊥
IsDrainFault workers cause.LogFull queued applier =
    LosesNothing workers queued (items_of_records applier.records) × (length applier.records ≡ applier.limit)
IsDrainFault workers cause.OutOfMemory queued applier =
    LosesNothing workers queued (items_of_records applier.records) × (length applier.records < applier.limit)

-- a gateway's queue couldn't be drained for this cause, and these parts are returned, of a log of these objects and
-- this limit. `close_all` may be called with them again: where it then applies all, the log holds what the clients were
-- answered is queued, and where it stops once more, again nothing is lost
pub record IsUndrained (workers limit : ℕ) (table : List ObjectLine) (gate : GateId) (why : CloseAllCause)
    (parts : CloseParts) (queued : List (ℕ × List ℕ)) : Type 0 where
  pub clients : gate.limits.clients ≡ workers + 1
  pub can_close : CanClose gate parts
  pub of_table : parts.applier.table ≡ table
  pub of_limit : parts.applier.limit ≡ limit
  pub fault : IsDrainFault workers why queued parts.applier
  pub again : (log : List Numbered) → IsMerge gate.limits.clients (queued_by parts.clients parts.taker.ended) log
      → HoldsAll workers queued log
  pub later : (log : List Numbered) → LeavesSome gate.limits.clients (queued_by parts.clients parts.taker.ended) log
      → LosesNothing workers queued log

-- of a gateway with so many workers, this capacity, this limit and these objects: the queue's own fault; that the
-- limit isn't 1 to 1,000,000, which comes before memory; or, with the reports of every client, why the queue couldn't
-- be drained
abbrev pub IsGatewayFault : ℕ → ℕ → ℕ → List ObjectLine → GatewayFault → Type 0
IsGatewayFault workers capacity limit table (fault.Queue why) = IsOpenFault why (workers + 1) default_quota capacity
IsGatewayFault workers capacity limit table (fault.Applier why) = why ≡ BadLimit → is_limit limit ≡ false
IsGatewayFault workers capacity limit table fault.OutOfMemory = is_limit limit ≡ true
IsGatewayFault workers capacity limit table fault.Spawn = Unit {0}
IsGatewayFault workers capacity limit table (fault.CloseAll gate drain reports) =
    IsUndrained workers limit table gate drain.cause (close_parts drain.taker drain.ended.items drain.applier)
    (queued_by_each (reports_of_each reports.items))
