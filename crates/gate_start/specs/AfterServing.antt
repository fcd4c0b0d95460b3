-- What a daemon does once its gateway has ended: it prints the log page, if there is a log (`EndsWith`). Own rules.
use Rattle.std.specs.Prelude.{◌≡◌, ◌⊎◌, ◌≤◌, ℕ, List, [], length, Option, Some, None, IsSome, MatchOption, IfErr, Result, Ok, Err}
use Rattle.gate_model.specs.declared.object.ObjectLine.{ObjectLine}
use Rattle.gate_model.specs.declared.record.Record.{Record}
use Rattle.gate_model.specs.Meaning.{outcomes_of}
use Rattle.gate_streams.specs.Sink.{SinkState, Delivers, FailsOnce}
use Rattle.gate_reader.specs.declared.report.Report.{Report}
use Rattle.gate_applier.specs.Applier.{ApplierView}
use Rattle.gate_lines.specs.LogPage.{log_text}
use Rattle.gate_close.specs.declared.drained_close.CloseAllCause.{CloseAllCause}
use Rattle.gate_close.specs.declared.drained_close.CloseAllCause.TheVariants as cause
use Rattle.gate_worker.specs.declared.worker.Cause.{Cause}
use Rattle.gate_worker.specs.declared.worker.Cause.TheVariants as worker
use Rattle.gate_worker.specs.Answered.{reports_of_each}
use Rattle.gate_opening.specs.declared.finished.Finished.{Finished}
use Rattle.gate_opening.specs.declared.fault.GatewayFault.{GatewayFault}
use Rattle.gate_opening.specs.declared.fault.GatewayFault.TheVariants as gateway_fault
use Rattle.gate_faults.specs.declared.fault.RunFault.TheVariants as run
use Rattle.gate_start.specs.declared.fault.ServeFault.{ServeFault}
use Rattle.gate_start.specs.declared.fault.ServeFault.TheVariants.{Run}

-- the log page of these records, on these objects
abbrev pub page_of : List ObjectLine → List Record → List ℕ
page_of table records = log_text records (outcomes_of table records)

-- the fault of a daemon that applied all, by why its operator's worker ended
abbrev pub operator_fault : Cause → Option ServeFault
operator_fault worker.OutOfMemory = Some (Run run.OutOfMemory)
operator_fault worker.Closing = None
operator_fault worker.TooManySessions = None
operator_fault worker.NoMoreConnections = None

-- the fault of a daemon that did not apply all; a gateway has no other cause
abbrev pub close_fault : CloseAllCause → Option ServeFault
close_fault cause.LogFull = Some (Run run.LogFull)
close_fault cause.OutOfMemory = Some (Run run.OutOfMemory)
close_fault (cause.Missing client) = None
close_fault cause.NotClosing = None

-- the fault of a daemon whose gateway ended so, once its log page is printed
abbrev pub fault_after : Result Finished GatewayFault → Option ServeFault
fault_after (Ok finished) = operator_fault finished.operator
fault_after (Err (gateway_fault.CloseAll gate drain reports)) = close_fault drain.cause
fault_after (Err (gateway_fault.Queue why)) = Some (Run run.OutOfMemory)
fault_after (Err (gateway_fault.Applier why)) = Some (Run run.OutOfMemory)
fault_after (Err gateway_fault.OutOfMemory) = Some (Run run.OutOfMemory)
fault_after (Err gateway_fault.Spawn) = Some (Run run.Spawn)

-- where a gateway ended with a fault, that is a daemon's too
abbrev pub IsNamed : Result Finished GatewayFault → Type 0
IsNamed ran = IfErr ran (λ fault. IsSome (fault_after (Err fault)))

-- the reports of the clients of a gateway that has ended, as far as they are known
abbrev pub reports_after : Result Finished GatewayFault → List (ℕ × List Report)
reports_after (Ok finished) = reports_of_each finished.reports.items
reports_after (Err (gateway_fault.CloseAll gate drain reports)) = reports_of_each reports.items
reports_after (Err _) = []

-- its applier, if it has one
abbrev pub applier_after : Result Finished GatewayFault → Option ApplierView
applier_after (Ok finished) = Some finished.closed.applier
applier_after (Err (gateway_fault.CloseAll gate drain reports)) = Some drain.applier
applier_after (Err _) = None

-- the log page of this applier was printed
pub record IsPageGiven (before after : SinkState) (applier : ApplierView) : Type 0 where
  pub few : length applier.records ≤ applier.limit
  pub printed : Delivers before after (page_of applier.table applier.records)

-- a daemon whose gateway ended so ends without a fault or with this one: the log page was printed, if there is a log;
-- or there is one, and a call of the output failed. The page takes no memory, and so can't want any
abbrev pub EndsWith : Result Finished GatewayFault → SinkState → SinkState → Option ServeFault → Type 0
EndsWith ran before after found =
    ((found ≡ fault_after ran) × MatchOption (applier_after ran) (after ≡ before) (IsPageGiven before after))
    ⊎ ((found ≡ Some (Run run.WriteFault)) × IsSome (applier_after ran) × FailsOnce before after)
