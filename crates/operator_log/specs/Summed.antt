-- What the last log page in a daemon's output comes to: `IsSummary`, and why there is none: `IsFaultIn`; and what `log`
-- prints: `IsLogShown`. Which file is read isn't known here, so some text is meant. Own rules.
use Rattle.std.specs.Prelude.{◌≡◌, ◌⊎◌, ℕ, Bool, if◌then◌else◌, List, ◌++◌, codes, Option, Some, None}
use Rattle.gate_grammar.specs.Numbers.{number_of}
use Rattle.gate_model.specs.Escaping.{escaped}
use Rattle.gate_streams.specs.Sink.{SinkState, Delivers}
use Rattle.log_reading.specs.declared.logged.Logged.{Logged}
use Rattle.log_reading.specs.declared.page.LogFault.{LogFault}
use Rattle.log_reading.specs.declared.page.LogFault.TheVariants.{NoLog}
use Rattle.log_reading.specs.Faults.{IsFaultOf}
use Rattle.log_reading.specs.Log.{logged_text}
use Rattle.operator_restore.specs.Printed.{HasNoPage, IsLastPage}
use Rattle.log_summary.specs.Summary.{since}
use Rattle.log_summary.specs.Lines.{summary_text, summary_json}
use Rattle.std.specs.Str.{IsUtf8}
use Rattle.operator_commands.specs.declared.bodies.RequestFault.TheVariants.{BadTime}
use Rattle.operator_setup.specs.declared.fault.ControlFault.{ControlFault}
use Rattle.operator_setup.specs.declared.fault.ControlFault.TheVariants.{BadWords, BadFile, Request, OutOfMemory, WriteFault}

-- what the records of this moment and later ones come to, as JSON or as lines
abbrev pub summary : Bool → ℕ → List Logged → List ℕ
summary json moment log = if json then summary_json (since moment log) else summary_text (since moment log)

-- the text is the summary of the last log page in what was printed
pub record IsSummary (printed : List ℕ) (json : Bool) (moment : ℕ) (text : List ℕ) : Type 0 where
  pub log : List Logged
  pub page : IsLastPage printed (logged_text log)
  pub summed : text ≡ summary json moment log

-- there is no log page in what was printed, or the last one is faulty
abbrev pub IsFaultIn : List ℕ → LogFault → Type 0
IsFaultIn printed fault =
    ((fault ≡ NoLog) × HasNoPage printed) ⊎ ((page : List ℕ) × IsLastPage printed page × IsFaultOf page fault)

-- the moment of `--since` in seconds, and 0 without it
abbrev pub since_of : Option (List ℕ) → Option ℕ
since_of None = Some 0
since_of (Some word) = number_of word

-- the summary of the last log page in some text was printed, from the moment of `--since` on
pub record IsLogShown (option : Option (List ℕ)) (json : Bool) (before after : SinkState) : Type 0 where
  pub printed : List ℕ
  pub moment : ℕ
  pub since_is : since_of option ≡ Some moment
  pub text : List ℕ
  pub summed : IsSummary printed json moment text
  pub shown : Delivers before after text

-- `FILE: CAUSE`
abbrev pub file_text : List ℕ → List ℕ → List ℕ
file_text file cause = escaped file ++ codes ": " ++ cause

-- a fault of the file names it
abbrev pub IsOfFile : List ℕ → ControlFault → Type 0
IsOfFile file (BadFile text) = (cause : List ℕ) × (text ≡ file_text file cause)
IsOfFile file OutOfMemory = Unit {0}
IsOfFile file _ = ⊥

-- why nothing, or not all, is printed: the moment is none, the file has no name or is faulty, or the output failed
abbrev pub IsLogFault : List ℕ → Option (List ℕ) → ControlFault → Type 0
IsLogFault file option (Request fault) = (fault ≡ BadTime) × (since_of option ≡ None)
IsLogFault file option BadWords = ¬ IsUtf8 file
IsLogFault file option WriteFault = Unit {0}
IsLogFault file option fault = IsOfFile file fault
