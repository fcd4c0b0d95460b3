-- What is done at a gateway, step by step: a command that is sent (`IsSent`), and what is read of its pages. Own rules.
use Rattle.std.specs.Prelude.{◌≡◌, ◌⊎◌, ℕ, List, [], ◌∷◌, ◌++◌, Result, Err, ⊤}
use Rattle.gate_grammar.specs.declared.commands.Command.{Command}
use Rattle.operator_lines.specs.declared.asking.AskFault.{AskFault}
use Rattle.operator_lines.specs.declared.asking.AskFault.TheVariants.{Unsent, WriteFault}
use Rattle.operator_lines.specs.declared.replies.Reply.{Reply}
use Rattle.operator_ports.specs.declared.done.Entry.{Entry}
use Rattle.operator_ports.specs.declared.done.Entry.TheVariants as entry
use Rattle.operator_ports.specs.declared.next.Next.{Next}
use Rattle.operator_ports.specs.declared.next.Next.TheVariants.{Page}

-- a command was sent over a connection of its own, with this answer or without one; or this was read of the pages
pub data Step : Type 0 where
  Sent : Command → Result Reply AskFault → Step
  Read : Next → Step

-- what a program keeps of a step
abbrev pub step_of : Entry → Step
step_of (entry.Sent command answer) = Sent command.value answer
step_of (entry.Page text) = Read (Page text.value)
step_of (entry.Read next) = Read next.value

-- no command was delivered
abbrev pub IsUnsent : Result Reply AskFault → Type 0
IsUnsent (Err (Unsent cause)) = ⊤
IsUnsent (Err WriteFault) = ⊤
IsUnsent answer = ⊥

-- the command was sent once, with this answer; or it was not delivered, and no step was made
abbrev pub IsSent : Command → Result Reply AskFault → List Step → List Step → Type 0
IsSent command answer before after =
    (after ≡ before ++ Sent command answer ∷ []) ⊎ (IsUnsent answer × (after ≡ before))

-- the text of the page that was read
abbrev pub IsTextOf : Next → List ℕ → Type 0
IsTextOf (Page text) bytes = bytes ≡ text.items
IsTextOf next bytes = ⊥
