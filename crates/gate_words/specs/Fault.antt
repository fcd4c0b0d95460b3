-- What is reported of words that ask for nothing: a line on standard error, and an exit status. Own rules: both.
use Rattle.std.specs.Prelude.{◌≡◌, ◌≢◌, ℕ, List, codes}
use Rattle.std.specs.IoError.{error_kind}
use Rattle.std.specs.declared.io.Error.{Error}
use Rattle.std.specs.declared.io.ErrorKind.TheVariants as kind
use Rattle.gate_words.specs.declared.fault.WordsFault.{WordsFault}
use Rattle.gate_words.specs.declared.fault.WordsFault.TheVariants.{BadArguments, OutOfMemory}

-- an error on reading the words is out of memory, or they are bad arguments
pub record IsUnread (error : Error) (fault : WordsFault) : Type 0 where
  pub memory : error_kind error ≡ kind.OutOfMemory → fault ≡ OutOfMemory
  pub other : error_kind error ≢ kind.OutOfMemory → fault ≡ BadArguments

-- the exit status of a program that does nothing for this cause
abbrev pub status_of : WordsFault → ℕ
status_of BadArguments = 2
status_of OutOfMemory = 3

-- the line that reports the cause
abbrev pub message_of : WordsFault → List ℕ
message_of BadArguments = codes "nscagate: bad arguments\n"
message_of OutOfMemory = codes "nscagate: OutOfMemory\n"
