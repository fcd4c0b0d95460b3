-- What is reported of a daemon that doesn't run or stops early: a line on standard error, and an exit status.
-- Own rules: both.
use Rattle.std.specs.Prelude.{ℕ, List, ◌++◌, codes}
use Rattle.gate_start.specs.declared.fault.ServeFault.{ServeFault}
use Rattle.gate_start.specs.declared.fault.ServeFault.TheVariants.{Unreadable, Config, Bind, Run}
use Rattle.gate_faults.specs.Fault as faults

-- the exit status of a daemon that stops so
abbrev pub status_of : ServeFault → ℕ
status_of Unreadable = 2
status_of (Config text) = 2
status_of (Bind address) = 4
status_of (Run fault) = 3

-- the line that reports the fault
abbrev pub message_of : ServeFault → List ℕ
message_of Unreadable = codes "nscagate: config: unreadable\n"
message_of (Config text) = codes "nscagate: config: " ++ text ++ codes "\n"
message_of (Bind address) = codes "nscagate: bind " ++ address ++ codes "\n"
message_of (Run fault) = faults.message_of fault
