-- What is reported of a command that stops amid its work: a line on standard error, beside status 3. Own rule: the line.
use Rattle.std.specs.Prelude.{ℕ, List, codes}
use Rattle.std.specs.IoError.{error_kind}
use Rattle.std.specs.declared.io.Error.{Error}
use Rattle.std.specs.declared.io.ErrorKind.{ErrorKind}
use Rattle.std.specs.declared.io.ErrorKind.TheVariants as kind
use Rattle.gate_faults.specs.declared.fault.RunFault.{RunFault}
use Rattle.gate_faults.specs.declared.fault.RunFault.TheVariants.{LogFull, OutOfMemory, ReadFault, WriteFault, Spawn}

-- the fault that a failed call with an error of this kind is, where it isn't memory that was missing
abbrev pub fault_of_kind : ErrorKind → RunFault → RunFault
fault_of_kind kind.OutOfMemory other = OutOfMemory
fault_of_kind _ other = other

-- the fault that a failed call of the input or the output is
abbrev pub fault_of : Error → RunFault → RunFault
fault_of error other = fault_of_kind (error_kind error) other

-- the line that reports the fault
abbrev pub message_of : RunFault → List ℕ
message_of LogFull = codes "nscagate: LogFull\n"
message_of OutOfMemory = codes "nscagate: OutOfMemory\n"
message_of ReadFault = codes "nscagate: ReadFault\n"
message_of WriteFault = codes "nscagate: WriteFault\n"
message_of Spawn = codes "nscagate: Spawn\n"
