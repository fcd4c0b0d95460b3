-- Commands on a connection, one line and one answer after the other: `Answers` of one command, `AnswersAll` of several,
-- and `HasNoReply` of one that a fault stopped. Own rules.
use Rattle.std.specs.Prelude.{◌≡◌, ◌≢◌, ℕ, List, [], ◌∷◌, ◌++◌, length, Option}
use Rattle.std.specs.List.{flat_map}
use Rattle.std.specs.Io.KnownBytes.{Consumes, IsAtEnd}
use Rattle.gate_grammar.specs.declared.commands.Command.{Command}
use Rattle.gate_grammar.specs.Writability.{IsWritable}
use Rattle.gate_reader.specs.Lines.{HasNoBreak}
use Rattle.gate_streams.specs.Sink.{SinkState, Writes, Delivers, FailsOnce}
use Rattle.operator_lines.specs.declared.asking.AskFault.{AskFault}
use Rattle.operator_lines.specs.declared.asking.AskFault.TheVariants.{Unsent, WriteFault, ReadFault, Ended, TooLong, NoAnswer}
use Rattle.operator_lines.specs.declared.sending.SendFault.TheVariants.{Unwritable}
use Rattle.operator_lines.specs.declared.replies.Reply.{Reply}
use Rattle.operator_lines.specs.Sending.{sent}
use Rattle.operator_lines.specs.Replies.{reply_line, Fits}

-- what is known of a connection at one moment: of its writer, and the bytes that its reader has left
pub record Connection : Type 0 where
  pub sink : SinkState
  pub left : Option (List ℕ)

-- a connection of which the writer and the reader know this
abbrev pub connection : SinkState → Option (List ℕ) → Connection
connection sink left = record { sink = sink; left = left }

-- the command was delivered, and the line of this reply was read
pub record Answers (command : Command) (reply : Reply) (before after : Connection) : Type 0 where
  pub delivered : Delivers before.sink after.sink (sent command)
  pub read : Consumes before.left after.left (reply_line reply)

-- each command was written once, in order, and the lines of these replies were read, one for each
pub record AnswersAll (commands : List Command) (replies : List Reply) (before after : Connection) : Type 0 where
  pub each : length replies ≡ length commands
  pub written : Writes before.sink after.sink (flat_map sent commands)
  pub read : Consumes before.left after.left (flat_map reply_line replies)

-- what was written of a command that has no reply: nothing, a part that nobody knows, or its line, which was delivered
abbrev pub IsWritten : AskFault → Command → SinkState → SinkState → Type 0
IsWritten (Unsent cause) command before after = after ≡ before
IsWritten WriteFault command before after = FailsOnce before after
IsWritten fault command before after = Delivers before after (sent command)

-- a line and its LF, of no reply
abbrev pub IsLineOfNone : List ℕ → Type 0
IsLineOfNone read =
    (line : List ℕ) × (read ≡ line ++ 10 ∷ []) × HasNoBreak line × ((reply : Reply) → Fits reply → read ≢ reply_line reply)

-- what was read in place of the line of a reply, and what is left after it
abbrev pub IsNoReply : AskFault → List ℕ → Option (List ℕ) → Type 0
IsNoReply ReadFault read left = HasNoBreak read
IsNoReply Ended read left = HasNoBreak read × IsAtEnd left
IsNoReply TooLong read left = HasNoBreak read × (length read ≡ 96)
IsNoReply NoAnswer read left = IsLineOfNone read
IsNoReply fault read left = read ≡ []

-- the command has no reply, for this fault
pub record HasNoReply (fault : AskFault) (command : Command) (before after : Connection) : Type 0 where
  pub unwritable : fault ≡ Unsent Unwritable → ¬ IsWritable command
  pub written : IsWritten fault command before.sink after.sink
  pub line : List ℕ
  pub read : Consumes before.left after.left line
  pub is_none : IsNoReply fault line after.left

-- the commands were answered up to one that has no reply, for this fault; none after it was written
pub record StopsWithin (fault : AskFault) (commands : List Command) (replies : List Reply) (before after : Connection)
    : Type 0 where
  pub answered : List Command
  pub stopped : Command
  pub left : List Command
  pub whole : commands ≡ answered ++ stopped ∷ left
  pub middle : Connection
  pub replied : AnswersAll answered replies before middle
  pub no_reply : HasNoReply fault stopped middle after
