-- A log page, read: `logged_text` is the page of what was read, `logged_of` what the page has of a record and its
-- outcome, and `IsReadable` says which records are read as they were written. The page is that of gate_pages' LogPage.
-- Own rule: the command of a record that was refused is kept as its text.
use Rattle.std.specs.Prelude.{◌≡◌, ◌⊎◌, ℕ, ℤ, List, ◌++◌, length, filter_map, codes, false, Option, Some, None}
use Rattle.std.specs.List.{flat_map, AllByRecursion}
use Rattle.std.specs.Fmt.{decimal}
use Rattle.gate_model.specs.declared.record.Moment.{Moment}
use Rattle.gate_model.specs.declared.record.Record.{Record}
use Rattle.gate_model.specs.declared.record.Outcome.{Outcome}
use Rattle.gate_model.specs.declared.record.Outcome.TheVariants as outcome
use Rattle.gate_model.specs.declared.submission.Body.{Body}
use Rattle.gate_model.specs.declared.submission.Body.TheVariants as body
use Rattle.gate_model.specs.Escaping.{escaped}
use Rattle.gate_model.specs.Record.{is_accepted}
use Rattle.gate_model.specs.Submission.{is_result}
use Rattle.gate_grammar.specs.Arguments.{Code}
use Rattle.gate_grammar.specs.Canonical.{body_text}
use Rattle.gate_grammar.specs.Writability.{IsInRange, AreInRange, IsWritable}
use Rattle.gate_lines.specs.LogPage.{outcome_name, log_line}
use Rattle.status_reading.specs.Readable.{Fits}
use Rattle.status_reading.specs.Board.{HoldsNone, MayHoldNone}
use Rattle.log_reading.specs.declared.logged.Logged.{Logged}
use Rattle.log_reading.specs.declared.logged.Logged.TheVariants.{Accepted, Refused}
use Rattle.log_reading.specs.declared.logged.Refusal.{Refusal}

-- ---- the page of what was read

-- when a record was applied, and whose submission it was
abbrev pub stamp_text : Moment → ℕ → ℕ → List ℕ
stamp_text moment client number =
    codes "[" ++ decimal moment.0 ++ codes "] " ++ decimal client ++ codes ":" ++ decimal number ++ codes " "

-- the line of a record without its LF: its stamp, the text of its command, and its outcome
abbrev pub line_front : Moment → ℕ → ℕ → List ℕ → Outcome → List ℕ
line_front moment client number text outcome =
    stamp_text moment client number ++ escaped text ++ codes " -> " ++ outcome_name outcome

-- the line of what was read
abbrev pub logged_line : Logged → List ℕ
logged_line (Accepted applied) = log_line (applied, outcome.Accepted)
logged_line (Refused one) = line_front one.moment one.client one.number one.command one.outcome ++ codes "\n"

-- the page of what was read
abbrev pub logged_text : List Logged → List ℕ
logged_text log = codes "log " ++ decimal (length log) ++ codes "\n" ++ flat_map logged_line log

-- ---- what a page has of a record

-- the record, where it took effect; otherwise its command's text
abbrev pub logged_by : Record → Outcome → Logged
logged_by applied outcome.Accepted = Accepted applied
logged_by applied refusal = Refused (record {
  moment = applied.moment;
  client = applied.item.client;
  number = applied.item.number;
  outcome = refusal;
  command = body_text applied.item.body;
})

-- what the page has of a record and its outcome
abbrev pub logged_of : Record × Outcome → Logged
logged_of (applied, outcome) = logged_by applied outcome

-- the record that took effect, if it did
abbrev pub accepted_of : Logged → Option Record
accepted_of (Accepted applied) = Some applied
accepted_of (Refused one) = None

-- the records that took effect, in their order
abbrev pub accepted_in : List Logged → List Record
accepted_in log = filter_map accepted_of log

-- ---- the records that are read as they were written

-- a code of 16 bits
abbrev pub IsCode : ℤ → Type 0
IsCode code = IsInRange (Code code)

-- a line can hold the command, and its numbers are of their range
pub record IsWritten (body : Body) : Type 0 where
  pub range : AreInRange body
  pub writable : IsWritable (record { entered = record { 0 = 0 }; body = body })

-- a check result whose names hold no semicolon
pub record IsPlainResult (one : Body) : Type 0 where
  pub host : List ℕ
  pub service : Option (List ℕ)
  pub code : ℤ
  pub output : List ℕ
  pub whole : one ≡ body.Result host service code output
  pub host_plain : HoldsNone host
  pub service_plain : MayHoldNone service
  pub code_small : IsCode code

-- another command, that a line can hold
pub record IsPlainCommand (one : Body) : Type 0 where
  pub other : is_result one ≡ false
  pub written : IsWritten one

-- the body is known from its text
abbrev pub IsReadableBody : Body → Type 0
IsReadableBody one = IsPlainResult one ⊎ IsPlainCommand one

-- the moment, the client and the number have 32 bits: a log has at most 1,000,000 records, and so each client
pub record IsStamped (at : Moment) (sender count : ℕ) : Type 0 where
  pub moment : Fits at.0
  pub client : Fits sender
  pub number : Fits count

-- a record that took effect
pub record IsReadableRecord (applied : Record) : Type 0 where
  pub stamped : IsStamped applied.moment applied.item.client applied.item.number
  pub body : IsReadableBody applied.item.body

-- one that was refused: its command is any text
pub record IsReadableRefusal (one : Refusal) : Type 0 where
  pub stamped : IsStamped one.moment one.client one.number
  pub refused : is_accepted one.outcome ≡ false

-- what can be read from a line
abbrev pub IsReadable : Logged → Type 0
IsReadable (Accepted applied) = IsReadableRecord applied
IsReadable (Refused one) = IsReadableRefusal one

-- all of a page, of at most 2 ^ 32 - 1 records
pub record AreReadable (log : List Logged) : Type 0 where
  pub few : Fits (length log)
  pub each : AllByRecursion IsReadable log
