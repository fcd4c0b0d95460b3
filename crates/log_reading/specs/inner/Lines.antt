-- For proofs and private functions alone: the fields of a line.
use Rattle.std.specs.Prelude.{ℕ, List, [], ◌∷◌, ◌++◌, codes, Option, Some, None, if◌then◌else◌}
use Rattle.std.specs.Str.{bytes_eq}
use Rattle.std.specs.Fmt.{decimal}
use Rattle.gate_model.specs.declared.record.Record.{Record}
use Rattle.gate_model.specs.declared.record.Outcome.{Outcome}
use Rattle.gate_model.specs.declared.record.Outcome.TheVariants as outcome
use Rattle.gate_model.specs.Escaping.{escaped}
use Rattle.gate_grammar.specs.Canonical.{body_text}
use Rattle.gate_lines.specs.LogPage.{outcome_name}
use Rattle.status_reading.specs.Readable.{Fits}
use Rattle.log_reading.specs.declared.logged.Logged.{Logged}
use Rattle.log_reading.specs.declared.logged.Logged.TheVariants.{Accepted, Refused}
use Rattle.log_reading.specs.declared.lines.Stamp.{Stamp}
use Rattle.log_reading.specs.declared.lines.Line.{Line}

-- the first of these outcomes that has this name
abbrev pub outcome_among : List Outcome → List ℕ → Option Outcome
outcome_among [] word = None
outcome_among (one ∷ outcomes) word = if bytes_eq (outcome_name one) word then Some one else outcome_among outcomes word

pub record IsStamp (stamp : Stamp) : Type 0 where
  pub moment : Fits stamp.moment
  pub client : Fits stamp.client
  pub number : Fits stamp.number

-- a stamp, and this
abbrev pub stamped : Stamp → List ℕ → List ℕ
stamped stamp rest =
    91 ∷ (decimal stamp.moment ++ 93 ∷ 32 ∷ (decimal stamp.client ++ 58 ∷ (decimal stamp.number ++ 32 ∷ rest)))

-- a command, and its outcome
abbrev pub with_outcome : List ℕ → Outcome → List ℕ
with_outcome command outcome = (command ++ codes " ->") ++ 32 ∷ outcome_name outcome

-- the fields; the command has the page's escapes
pub record LineView : Type 0 where
  pub stamp : Stamp
  pub command : List ℕ
  pub outcome : Outcome

abbrev pub line_view : Line → LineView
line_view line = record { stamp = line.stamp; command = line.command.now; outcome = line.outcome }

-- the line without its LF
abbrev pub content : LineView → List ℕ
content line = stamped line.stamp (with_outcome line.command line.outcome)

-- a record's stamp
abbrev pub stamp_by : Record → Stamp
stamp_by applied = record { moment = applied.moment.0; client = applied.item.client; number = applied.item.number }

-- the fields of a record's line
abbrev pub view_of : Logged → LineView
view_of (Accepted applied) = record {
  stamp = stamp_by applied;
  command = escaped (body_text applied.item.body);
  outcome = outcome.Accepted;
}
view_of (Refused one) = record {
  stamp = record { moment = one.moment.0; client = one.client; number = one.number };
  command = escaped one.command;
  outcome = one.outcome;
}
