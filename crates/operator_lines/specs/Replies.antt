-- What the line of an answer gives of it: `reply_to`, and `reply_line` for the other direction. The line of a close
-- doesn't have its moment. `Stale` and `EmptyHost` answer packets, and are no reply to a line.
use Rattle.std.specs.Prelude.{ℕ, ◌<◌, ◌^◌, List, Option, Some, None, ⊤}
use Rattle.gate_grammar.specs.declared.faults.LineFault.{LineFault}
use Rattle.gate_grammar.specs.declared.faults.LineFault.TheVariants as fault
use Rattle.gate_reader.specs.declared.report.Answer.{Answer}
use Rattle.gate_reader.specs.declared.report.Answer.TheVariants as answer
use Rattle.gate_reader.specs.Report.{answer_line}
use Rattle.operator_lines.specs.declared.replies.Reply.{Reply}
use Rattle.operator_lines.specs.declared.replies.Reply.TheVariants.{Queued, Full, Spent, Closing, Bad}

-- the reply that an answer's line gives
abbrev pub reply_to : Answer → Option Reply
reply_to (answer.Queued number) = Some (Queued number)
reply_to answer.Full = Some Full
reply_to answer.Spent = Some Spent
reply_to (answer.Closing first) = Some Closing
reply_to (answer.Down first) = Some Closing
reply_to (answer.Bad cause) = Some (Bad cause)
reply_to answer.Stale = None
reply_to answer.EmptyHost = None

-- an answer that gives this reply
abbrev pub answer_of : Reply → Answer
answer_of (Queued number) = answer.Queued number
answer_of Full = answer.Full
answer_of Spent = answer.Spent
answer_of Closing = answer.Closing (record { 0 = 0 })
answer_of (Bad cause) = answer.Bad cause

-- the line of an answer that gives this reply
abbrev pub reply_line : Reply → List ℕ
reply_line reply = answer_line (answer_of reply)

-- an argument's number has 32 bits
abbrev pub FitsFault : LineFault → Type 0
FitsFault (fault.MissingArgument number) = number < 2 ^ 32
FitsFault (fault.EmptyName number) = number < 2 ^ 32
FitsFault (fault.BadNumber number) = number < 2 ^ 32
FitsFault cause = ⊤

-- an item's number has 64 bits, and an argument's 32
abbrev pub Fits : Reply → Type 0
Fits (Queued number) = number < 2 ^ 64
Fits (Bad cause) = FitsFault cause
Fits reply = ⊤

-- the same of an answer
abbrev pub FitsAnswer : Answer → Type 0
FitsAnswer (answer.Queued number) = number < 2 ^ 64
FitsAnswer (answer.Bad cause) = FitsFault cause
FitsAnswer given = ⊤
