-- Only proofs and private functions use this file: what `read_line` and its steps answer, each as one function of the
-- line.
use Rattle.std.specs.Prelude.{◌≡◌, ℕ, List, Result, Ok, Err, IsTrue}
use Rattle.gate_grammar.specs.declared.commands.Command.{Command}
use Rattle.gate_grammar.specs.declared.faults.LineFault.{LineFault}
use Rattle.gate_grammar.specs.declared.faults.LineFault.TheVariants as fault
use Rattle.gate_grammar.specs.Parsing.{◌>>=◌, parsed_line}
use Rattle.gate_grammar.specs.Commands.{command_body, takes_memory, name_of}

-- every fault but out of memory
abbrev pub IsOfLine : LineFault → Type 0
IsOfLine fault.OutOfMemory = ⊥
IsOfLine fault = Unit {0}

-- the answer of a step, seen by view, is the wanted one
abbrev pub ParsesTo : {X Y : Type 0} → (X → Y) → Result X LineFault → Result Y LineFault → Type 0
ParsesTo view (Ok found) wanted = wanted ≡ Ok (view found)
ParsesTo view (Err fault) wanted = IsOfLine fault × (wanted ≡ Err fault)

-- the command, or the first fault
abbrev pub answer_of : List ℕ → Result Command LineFault
answer_of line = do
  parsed ← parsed_line line
  Ok (record { entered = parsed.entered; body = command_body parsed.name parsed.arguments })

-- out of memory comes only where the line would have been read as a command that takes memory
abbrev pub Refuses : LineFault → Result Command LineFault → Type 0
Refuses fault.OutOfMemory wanted =
    (command : Command) × (wanted ≡ Ok command) × IsTrue (takes_memory (name_of command.body))
Refuses fault wanted = wanted ≡ Err fault

-- the answer is the wanted one, or out of memory in place of a command
abbrev pub Answers : Result Command LineFault → Result Command LineFault → Type 0
Answers (Ok command) wanted = wanted ≡ Ok command
Answers (Err fault) wanted = Refuses fault wanted
