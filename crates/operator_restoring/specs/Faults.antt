-- The exit status of a restore that prints nothing: 2 where what is kept can't be restored, 3 without memory. And the
-- faults of the words `restore` and `stop`. Own rules.
use Rattle.std.specs.Prelude.{◌⊎◌, ℕ, List, Option, IsUtf8}
use Rattle.operator_commands.specs.declared.request.Options.{Options}
use Rattle.operator_commands.specs.declared.request.Task.{Task}
use Rattle.operator_commands.specs.declared.request.Task.TheVariants.{Restore, Stop}
use Rattle.operator_setup.specs.declared.fault.ControlFault.{ControlFault}
use Rattle.operator_setup.specs.declared.fault.ControlFault.TheVariants as control
use Rattle.operator_setup.specs.Places.{IsNoPath, IsOfPlaces}
use Rattle.operator_restoring.specs.declared.restore_fault.RestoreFault.{RestoreFault}
use Rattle.operator_restoring.specs.declared.restore_fault.RestoreFault.TheVariants.{Unreadable, Unforeseen, OutOfMemory}

abbrev pub status_of : RestoreFault → ℕ
status_of Unreadable = 2
status_of (Unforeseen fault) = 2
status_of OutOfMemory = 3

-- ---- faults of the words

-- what is to be said isn't: the output can't be written, or memory runs out
abbrev pub IsOutputFault : ControlFault → Type 0
IsOutputFault control.WriteFault = Unit {0}
IsOutputFault control.OutOfMemory = Unit {0}
IsOutputFault fault = ⊥

-- why a gateway isn't stopped: the same, or the clock can't be read
abbrev pub IsStopFault : ControlFault → Type 0
IsStopFault control.NoClock = Unit {0}
IsStopFault fault = IsOutputFault fault

-- the words aren't those of `stop`, or a path is none
abbrev pub IsNoStop : Task → Type 0
IsNoStop (Stop page log pid) = (¬ (IsUtf8 page)) ⊎ (IsNoPath log ⊎ IsNoPath pid)
IsNoStop other = Unit {0}

-- why none is stopped: so are the words, or there are no ports, or it isn't stopped
abbrev pub IsNotStopped : Options → Task → ControlFault → Type 0
IsNotStopped options task control.BadWords = IsNoStop task
IsNotStopped options task control.NoClock = Unit {0}
IsNotStopped options task control.WriteFault = Unit {0}
IsNotStopped options task fault = IsOfPlaces options fault

-- the words aren't those of `restore`, or a path is none
abbrev pub IsNoRestore : Task → Type 0
IsNoRestore (Restore page log old) = (¬ (IsUtf8 page)) ⊎ IsNoPath log
IsNoRestore other = Unit {0}

-- why nothing is printed: so are the words, or there is no configuration, or a device fails
abbrev pub IsNotRestored : Options → Task → ControlFault → Type 0
IsNotRestored options task control.BadWords = IsNoRestore task
IsNotRestored options task control.NoClock = Unit {0}
IsNotRestored options task control.WriteFault = Unit {0}
IsNotRestored options task fault = IsOfPlaces options fault
