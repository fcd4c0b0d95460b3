-- What is written is read again: the laws that join the table of commands, spelling, writing and the first fault.
use Rattle.std.specs.Prelude.{◌≡◌, ◌↔◌, ℕ, ◌<◌, ◌^◌, List, Some, None, map}
use Rattle.gate_model.specs.declared.submission.Body.{Body}
use Rattle.gate_grammar.specs.declared.commands.Command.{Command}
use Rattle.gate_grammar.specs.declared.commands.CommandName.{CommandName}
use Rattle.gate_grammar.specs.declared.faults.LineFault.{LineFault}
use Rattle.gate_grammar.specs.Arguments.{ArgumentValue, argument_kind}
use Rattle.gate_grammar.specs.Commands.{kinds_of, command_body, name_of, values_of}
use Rattle.gate_grammar.specs.Spelling.{Spells}
use Rattle.gate_grammar.specs.Faults.{HasFault}
use Rattle.gate_grammar.specs.Canonical.{canonical_line}
use Rattle.gate_grammar.specs.Writability.{IsWritable, AreInRange}
use Rattle.gate_grammar.specs.Parsing.{first_fault}

-- a body is what its command makes of its values, and they are of the command's kinds
abbrev pub BodiesAreMade : Type 0
BodiesAreMade =
    (body : Body) → (command_body (name_of body) (values_of body) ≡ body)
    × (map argument_kind (values_of body) ≡ kinds_of (name_of body))

-- what a command makes of values of its kinds is a body of that command and of those values
abbrev pub MadeByOneCommand : Type 0
MadeByOneCommand =
    (name : CommandName) (values : List ArgumentValue) → map argument_kind values ≡ kinds_of name
    → (name_of (command_body name values) ≡ name) × (values_of (command_body name values) ≡ values)

-- the canonical line of a command that can be written spells that command
abbrev pub WrittenIsRead : Type 0
WrittenIsRead =
    (command : Command) → command.entered.0 < 2 ^ 32 → AreInRange command.body → IsWritable command
    → Spells (canonical_line command) command

-- a line spells one command at most
abbrev pub SpellsOneAtMost : Type 0
SpellsOneAtMost = (line : List ℕ) (one other : Command) → Spells line one → Spells line other → one ≡ other

-- a line without a fault spells a command
abbrev pub SpellsUnlessFaulty : Type 0
SpellsUnlessFaulty = (line : List ℕ) → first_fault line ≡ None → (command : Command) × Spells line command

-- a line that spells a command has no fault
abbrev pub FaultlessIfSpelled : Type 0
FaultlessIfSpelled = (line : List ℕ) (command : Command) → Spells line command → first_fault line ≡ None

-- a line has a fault exactly when it is the first that parsing finds: a line has one fault at most
abbrev pub FaultIsFirst : Type 0
FaultIsFirst = (line : List ℕ) (cause : LineFault) → (first_fault line ≡ Some cause) ↔ HasFault line cause
