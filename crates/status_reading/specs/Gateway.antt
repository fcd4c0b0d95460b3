-- What a gateway publishes: `published_board`, of a gateway that `IsGateway`. Its table is faultless by
-- `ObjectTable::build`, its records are at most 1,000,000 by `Applier::records` and `Applier::limit`, and they are of
-- submissions by the sessions that gate_reader defines (`SubmitsPacket`, `SubmitsCommand`). Own rule: that number.
use Rattle.std.specs.Prelude.{◌≡◌, ◌≤◌, ◌⊎◌, ℕ, IsTrue, List, length, Option}
use Rattle.std.specs.Option.{option_map}
use Rattle.std.specs.List.{AllByRecursion}
use Rattle.gate_model.specs.declared.record.Moment.{Moment}
use Rattle.gate_model.specs.declared.record.Record.{Record}
use Rattle.gate_model.specs.declared.object.ObjectLine.{ObjectLine}
use Rattle.gate_model.specs.declared.submission.Body.{Body}
use Rattle.gate_model.specs.Submission.{is_result}
use Rattle.gate_table.specs.Faults.{IsFaultless}
use Rattle.gate_grammar.specs.declared.commands.Command.{Command}
use Rattle.gate_grammar.specs.Spelling.{Spells}
use Rattle.gate_pages.specs.StatusPage.{BoardView, board_at}
use Rattle.status_reading.specs.Readable.{Fits, MayFit}

-- a line spells a command with this body
pub record IsSpelled (body : Body) : Type 0 where
  pub line : List ℕ
  pub command : Command
  pub spelled : Spells line command
  pub body_is : body ≡ command.body

-- the body is a check result, as a packet has it, or a line spells a command with it
abbrev pub IsSubmission : Body → Type 0
IsSubmission body = IsTrue (is_result body) ⊎ IsSpelled body

-- the record is of a submission, and its moment has 32 bits
pub record IsOfSubmission (applied : Record) : Type 0 where
  pub submission : IsSubmission applied.item.body
  pub moment : Fits applied.moment.0

-- a gateway: its table, the moment of its opening, its records, its moment, and that of its close where it is closing
pub record GatewayView : Type 0 where
  pub table : List ObjectLine
  pub opening : Moment
  pub records : List Record
  pub moment : Moment
  pub closing : Option Moment

-- its board: what its records make of the objects of its table, marked closing where it is
abbrev pub published_board : GatewayView → BoardView
published_board gateway =
    record (board_at gateway.table gateway.opening gateway.records gateway.moment) { closing = gateway.closing }

-- the table is faultless, the records are at most 1,000,000 and of submissions, and the moments have 32 bits
pub record IsGateway (gateway : GatewayView) : Type 0 where
  pub table : IsFaultless gateway.table
  pub few : length gateway.records ≤ 1000000
  pub records : AllByRecursion IsOfSubmission gateway.records
  pub moment : Fits gateway.moment.0
  pub closing : MayFit (option_map (λ (moment : Moment). moment.0) gateway.closing)
