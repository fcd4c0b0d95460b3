-- The line of a reply, and the reply of a line.
use Rattle.std.proofs.Common.{◌≡◌, ◌≢◌, ℕ, ◌<◌, ◌^◌, min, ◌==◌, if◌then◌else◌, List, [], ◌∷◌, get_or, codes, Option, Some, None, IfSome, IfNone, MatchOption, refl, sym, ap, ◌∙◌, arith}
use Rattle.std.specs.List.{AllByRecursion}
use Rattle.gate_grammar.specs.declared.faults.LineFault.TheVariants as fault
use Rattle.gate_reader.specs.Report.{answer_line}
use Rattle.gate_reader.specs.declared.report.Answer.{Answer}
use Rattle.gate_reader.specs.declared.report.Answer.TheVariants as answer
use Rattle.operator_lines.specs.declared.replies.Reply.{Reply}
use Rattle.operator_lines.specs.declared.replies.Reply.TheVariants.{Queued, Full, Spent, Closing, Bad}
use Rattle.operator_lines.specs.Replies.{reply_to, reply_line, Fits, FitsAnswer}
use Rattle.operator_lines.specs.inner.Numbers.{HasNumber, ReadsNumber, Finds}
use Rattle.operator_lines.proofs.DigitSteps.{line_number, number_at_end}

-- ---- a reply of the table

-- the replies that a line with this number is compared with, where an argument's number is this
abbrev pub replies_with : ℕ → ℕ → List Reply
replies_with number argument =
    Queued number ∷ Full ∷ Spent ∷ Closing
    ∷ Bad fault.TooLong ∷ Bad fault.BadByte ∷ Bad fault.NoTime ∷ Bad fault.UnknownCommand ∷ Bad fault.ExtraArgument
    ∷ Bad (fault.MissingArgument argument) ∷ Bad (fault.EmptyName argument) ∷ Bad (fault.BadNumber argument)
    ∷ Bad fault.OutOfMemory ∷ []

-- an argument's number of 32 bits is kept
least : (number argument found : ℕ) → argument ≡ min number 4294967295 → number ≡ found → found < 2 ^ 32 → argument ≡ found
least number argument found is same small = omega arith

none_of : (line : List ℕ) (number argument : ℕ) → argument ≡ min number 4294967295
    → AllByRecursion (λ reply. line ≢ reply_line reply) (replies_with number argument)
    → (reply : Reply) → Fits reply → HasNumber reply number → line ≢ reply_line reply
none_of line number argument least_is none (Queued item) fits has is = none.0 (is ∙ ap (λ n. reply_line (Queued n)) (sym has))
none_of line number argument least_is none Full fits has is = none.1.0 is
none_of line number argument least_is none Spent fits has is = none.1.1.0 is
none_of line number argument least_is none Closing fits has is = none.1.1.1.0 is
none_of line number argument least_is none (Bad fault.TooLong) fits has is = none.1.1.1.1.0 is
none_of line number argument least_is none (Bad fault.BadByte) fits has is = none.1.1.1.1.1.0 is
none_of line number argument least_is none (Bad fault.NoTime) fits has is = none.1.1.1.1.1.1.0 is
none_of line number argument least_is none (Bad fault.UnknownCommand) fits has is = none.1.1.1.1.1.1.1.0 is
none_of line number argument least_is none (Bad fault.ExtraArgument) fits has is = none.1.1.1.1.1.1.1.1.0 is
none_of line number argument least_is none (Bad (fault.MissingArgument found)) fits has is =
    none.1.1.1.1.1.1.1.1.1.0 (is ∙ ap (λ n. reply_line (Bad (fault.MissingArgument n))) (sym (least number argument found least_is has fits)))
none_of line number argument least_is none (Bad (fault.EmptyName found)) fits has is =
    none.1.1.1.1.1.1.1.1.1.1.0 (is ∙ ap (λ n. reply_line (Bad (fault.EmptyName n))) (sym (least number argument found least_is has fits)))
none_of line number argument least_is none (Bad (fault.BadNumber found)) fits has is =
    none.1.1.1.1.1.1.1.1.1.1.1.0 (is ∙ ap (λ n. reply_line (Bad (fault.BadNumber n))) (sym (least number argument found least_is has fits)))
none_of line number argument least_is none (Bad fault.OutOfMemory) fits has is = none.1.1.1.1.1.1.1.1.1.1.1.1.0 is

pub finds : (line : List ℕ) (number argument : ℕ) (found : Option Reply) → argument ≡ min number 4294967295
    → MatchOption found (AllByRecursion (λ reply. line ≢ reply_line reply) (replies_with number argument))
    (λ reply. (line ≡ reply_line reply) × Fits reply)
    → Finds line number found
finds line number argument None least_is none = none_of line number argument least_is none
finds line number argument (Some reply) least_is is = is

-- ---- the number of a line

numbered : (line : List ℕ) (number : ℕ) → ReadsNumber line number → (reply : Reply) → Fits reply → line ≡ reply_line reply → HasNumber reply number
numbered line number reads (Queued item) fits is = reads (codes "queued ") item refl fits is
numbered line number reads (Bad (fault.MissingArgument found)) fits is = reads (codes "bad MissingArgument ") found refl (omega arith) is
numbered line number reads (Bad (fault.EmptyName found)) fits is = reads (codes "bad EmptyName ") found refl (omega arith) is
numbered line number reads (Bad (fault.BadNumber found)) fits is = reads (codes "bad BadNumber ") found refl (omega arith) is
numbered line number reads _ fits is = tt

-- ---- what is found

pub read_of : (line : List ℕ) (number : ℕ) (found : Option Reply) → Finds line number found → IfSome found (λ reply. line ≡ reply_line reply)
read_of line number None finds = tt
read_of line number (Some reply) finds = finds.0

pub none_read : (line : List ℕ) (number : ℕ) (found : Option Reply) → ReadsNumber line number → Finds line number found
    → IfNone found ((reply : Reply) → Fits reply → line ≢ reply_line reply)
none_read line number None reads finds = λ reply fits is. finds reply fits (numbered line number reads reply fits is) is
none_read line number (Some reply) reads finds = tt

-- ---- the inverse

-- the fault that the letters after `bad ` name
abbrev fault_named : ℕ → ℕ → ℕ → ℕ → Option Reply
fault_named first second fourth number =
    if first == 84 then Some (Bad fault.TooLong)
    else if first == 66 then (if fourth == 66 then Some (Bad fault.BadByte) else Some (Bad (fault.BadNumber number)))
    else if first == 78 then Some (Bad fault.NoTime)
    else if first == 85 then Some (Bad fault.UnknownCommand)
    else if first == 69 then (if second == 120 then Some (Bad fault.ExtraArgument) else Some (Bad (fault.EmptyName number)))
    else if first == 77 then Some (Bad (fault.MissingArgument number))
    else Some (Bad fault.OutOfMemory)

-- the reply that a line's letters name
abbrev named : List ℕ → Option Reply
named line =
    if get_or line 0 0 == 113 then Some (Queued (line_number line))
    else if get_or line 0 0 == 102 then Some Full
    else if get_or line 0 0 == 115 then Some Spent
    else if get_or line 0 0 == 99 then Some Closing
    else if get_or line 0 0 == 98 then fault_named (get_or line 4 0) (get_or line 5 0) (get_or line 7 0) (line_number line)
    else None

answer_named : (given : Answer) → FitsAnswer given → named (answer_line given) ≡ reply_to given
answer_named (answer.Queued number) fits = ap (λ n. Some (Queued n)) (number_at_end number fits)
answer_named (answer.Bad (fault.MissingArgument number)) fits = ap (λ n. Some (Bad (fault.MissingArgument n))) (number_at_end number (omega arith))
answer_named (answer.Bad (fault.EmptyName number)) fits = ap (λ n. Some (Bad (fault.EmptyName n))) (number_at_end number (omega arith))
answer_named (answer.Bad (fault.BadNumber number)) fits = ap (λ n. Some (Bad (fault.BadNumber n))) (number_at_end number (omega arith))
answer_named _ fits = refl

reply_named : (reply : Reply) → Fits reply → named (reply_line reply) ≡ Some reply
reply_named (Queued number) fits = answer_named (answer.Queued number) fits
reply_named (Bad cause) fits = answer_named (answer.Bad cause) fits
reply_named _ fits = refl

-- an answer to a packet is no reply, and any other is found
none_of_answer : (given : Answer) → FitsAnswer given → ((reply : Reply) → Fits reply → answer_line given ≢ reply_line reply) → None ≡ reply_to given
none_of_answer (answer.Queued number) fits none = absurd (none (Queued number) fits refl)
none_of_answer answer.Full fits none = absurd (none Full tt refl)
none_of_answer answer.Spent fits none = absurd (none Spent tt refl)
none_of_answer (answer.Closing first) fits none = absurd (none Closing tt refl)
none_of_answer answer.Stale fits none = refl
none_of_answer answer.EmptyHost fits none = refl
none_of_answer (answer.Bad cause) fits none = absurd (none (Bad cause) fits refl)
none_of_answer (answer.Down first) fits none = absurd (none Closing tt refl)

pub inverse : (line : List ℕ) (number : ℕ) (found : Option Reply) → ReadsNumber line number → Finds line number found
    → (given : Answer) → FitsAnswer given → line ≡ answer_line given → found ≡ reply_to given
inverse line number None reads finds given fits is =
    none_of_answer given fits (λ reply may same. none_read line number None reads finds reply may (is ∙ same))
inverse line number (Some reply) reads finds given fits is =
    sym (reply_named reply finds.1) ∙ ap named (sym finds.0 ∙ is) ∙ answer_named given fits
