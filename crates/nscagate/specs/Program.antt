-- How the program ends where its words ask for the daemon, or for nothing. Own rules.
use Rattle.std.specs.Prelude.{◌≡◌, ◌⊎◌, ℕ, List, Option, Some}
use Rattle.gate_words.specs.declared.fault.WordsFault.{WordsFault}
use Rattle.gate_words.specs.declared.fault.WordsFault.TheVariants.{BadArguments, OutOfMemory}
use Rattle.gate_words.specs.Fault as words
use Rattle.gate_streams.specs.Fault.{status_at_end, IsFaultReported}
use Rattle.gate_streams.specs.Sink.{SinkState}
use Rattle.gate_reader.specs.declared.report.Report.{Report}
use Rattle.gate_start.specs.declared.fault.ServeFault.{ServeFault}
use Rattle.gate_start.specs.Fault.{status_of, message_of}
use Rattle.gate_start.specs.Kept.{IsInputTaken}
use Rattle.nscagate.specs.Serve.{ServeEnds}

-- the program ends with this status, after a line on the cause
pub record IsRefusal (cause : WordsFault) (errors errors_after : SinkState) (status : ℕ) : Type 0 where
  pub status_is : status ≡ status_at_end words.status_of (Some cause)
  pub reported : IsFaultReported words.message_of (Some cause) errors errors_after

-- the program ends so where its words ask for nothing: memory may run out before that is known
abbrev pub IsRefused : SinkState → SinkState → ℕ → Type 0
IsRefused errors errors_after status =
    IsRefusal BadArguments errors errors_after status ⊎ IsRefusal OutOfMemory errors errors_after status

-- the daemon, with what is known of its input, and of the output and of the errors before and after it, ends with this
-- status, and its clients have some reports; what isn't taken of the input is named first
pub record IsServeRun (remaining : Option (List ℕ)) (output output_after errors errors_after : SinkState) (status : ℕ)
    : Type 0 where
  pub reports : List (ℕ × List Report)
  pub fault : Option ServeFault
  pub status_is : status ≡ status_at_end status_of fault
  pub ended : ServeEnds output output_after reports fault
  pub middle : SinkState
  pub taken : IsInputTaken remaining errors middle
  pub reported : IsFaultReported message_of fault middle errors_after
