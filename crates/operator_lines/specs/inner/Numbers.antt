-- For proofs and private functions alone: the number that stands in the line of a reply.
use Rattle.std.specs.Prelude.{◌≡◌, ◌≢◌, ℕ, ◌<◌, ◌^◌, List, [], ◌∷◌, ◌++◌, false, Option, MatchOption, ⊤}
use Rattle.std.specs.Char.{is_ascii_digit}
use Rattle.std.specs.Fmt.{decimal}
use Rattle.std.specs.List.{list_any}
use Rattle.gate_grammar.specs.declared.faults.LineFault.{LineFault}
use Rattle.gate_grammar.specs.declared.faults.LineFault.TheVariants as fault
use Rattle.operator_lines.specs.declared.replies.Reply.{Reply}
use Rattle.operator_lines.specs.declared.replies.Reply.TheVariants.{Queued, Bad}
use Rattle.operator_lines.specs.Replies.{reply_line, Fits}

-- the fault has this number, if it has one
abbrev pub FaultHasNumber : LineFault → ℕ → Type 0
FaultHasNumber (fault.MissingArgument argument) number = number ≡ argument
FaultHasNumber (fault.EmptyName argument) number = number ≡ argument
FaultHasNumber (fault.BadNumber argument) number = number ≡ argument
FaultHasNumber cause number = ⊤

-- the reply has this number, if it has one
abbrev pub HasNumber : Reply → ℕ → Type 0
HasNumber (Queued item) number = number ≡ item
HasNumber (Bad cause) number = FaultHasNumber cause number
HasNumber reply number = ⊤

-- what was read is the number between a text without digits and the LF
abbrev pub ReadsNumber : List ℕ → ℕ → Type 0
ReadsNumber line number =
    (text : List ℕ) (found : ℕ) → list_any is_ascii_digit text ≡ false → found < 2 ^ 64
    → line ≡ text ++ (decimal found ++ 10 ∷ []) → number ≡ found

-- the line is that of what was found; where nothing was found, it is that of no reply with this number
abbrev pub Finds : List ℕ → ℕ → Option Reply → Type 0
Finds line number found =
    MatchOption found ((reply : Reply) → Fits reply → HasNumber reply number → line ≢ reply_line reply)
    (λ reply. (line ≡ reply_line reply) × Fits reply)
