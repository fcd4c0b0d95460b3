-- What is reported of a replay that stops: a line on standard error, and an exit status.
-- Own rules: both.
use Rattle.std.specs.Prelude.{ℕ, List, ◌++◌, codes}
use Rattle.std.specs.Fmt.{decimal}
use Rattle.gate_faults.specs.Fault as faults
use Rattle.gate_faults.specs.declared.fault.RunFault.TheVariants as run
use Rattle.gate_replay.specs.declared.script.ScriptFault.{ScriptFault}
use Rattle.gate_replay.specs.declared.script.ScriptFault.TheVariants as script
use Rattle.gate_replay.specs.declared.fault.ReplayFault.{ReplayFault}
use Rattle.gate_replay.specs.declared.fault.ReplayFault.TheVariants.{TooLong, Line, Run}

-- a script's fault, as a fault of its replay
abbrev pub replay_fault : ScriptFault → ReplayFault
replay_fault (script.Line number) = Line number
replay_fault script.OutOfMemory = Run run.OutOfMemory

-- the exit status of a program that stops so
abbrev pub status_of : ReplayFault → ℕ
status_of TooLong = 2
status_of (Line number) = 2
status_of (Run fault) = 3

-- the line that reports the fault
abbrev pub message_of : ReplayFault → List ℕ
message_of TooLong = codes "nscagate: script too long\n"
message_of (Line number) = codes "nscagate: script line " ++ decimal number ++ codes "\n"
message_of (Run fault) = faults.message_of fault
