-- Why a line spells no command, by its fields. Own rules: the faults and their order. Each fault of a line supposes
-- that those before it don't apply; arguments are read from the left. `HasFault` is the main definition.
use Rattle.std.specs.Prelude.{◌≡◌, ◌≢◌, ℕ, ◌+◌, ◌<◌, ◌≤◌, List, [], ◌∷◌, ◌++◌, length, map, true, false, IsSome, IsTrue, Result, MatchResult}
use Rattle.std.specs.List.{list_any, list_all}
use Rattle.gate_grammar.specs.Numbers.{number_of}
use Rattle.gate_grammar.specs.declared.arguments.ArgumentKind.{ArgumentKind}
use Rattle.gate_grammar.specs.declared.arguments.ArgumentKind.TheVariants.{Name}
use Rattle.gate_grammar.specs.declared.commands.Command.{Command}
use Rattle.gate_grammar.specs.declared.commands.CommandName.{CommandName}
use Rattle.gate_grammar.specs.declared.faults.LineFault.{LineFault}
use Rattle.gate_grammar.specs.declared.faults.LineFault.TheVariants as fault
use Rattle.gate_grammar.specs.Arguments.{ArgumentValue, argument_kind}
use Rattle.gate_grammar.specs.Commands.{text_of, kinds_of, takes_memory, name_of}
use Rattle.gate_grammar.specs.Spelling.{Spells, SpellsValue, SpellEach, is_barred, is_blank, ends_in_blank, holds, joined, timed}

-- nothing, or this byte and more
abbrev pub Begins : ℕ → List ℕ → Type 0
Begins mark [] = Unit {0}
Begins mark (byte ∷ rest) = byte ≡ mark

-- ---- the start of a line

-- the line isn't too long, and holds no byte that no line holds
pub record IsPlain (line : List ℕ) : Type 0 where
  pub short : length line ≤ 8192
  pub clean : list_any is_barred line ≡ false

-- the line is a time, then this, then blanks; what stands before the blanks ends in none
pub record IsTimed (line rest : List ℕ) : Type 0 where
  pub plain : IsPlain line
  pub time : List ℕ
  pub blanks : List ℕ
  pub whole : line ≡ timed time rest ++ blanks
  pub moment : IsSome (number_of time)
  pub tight : ends_in_blank (timed time rest) ≡ false
  pub blank : list_all is_blank blanks ≡ true

-- the line calls this command, and this stands after its name: nothing, or a semicolon and more
pub record IsCall (line : List ℕ) (name : CommandName) (left : List ℕ) : Type 0 where
  pub rest : List ℕ
  pub timed : IsTimed line rest
  pub whole : rest ≡ text_of name ++ left
  pub begins : Begins 59 left

-- no command's name stands here, alone or before a semicolon
abbrev pub CallsNothing : List ℕ → Type 0
CallsNothing rest = (name : CommandName) (left : List ℕ) → Begins 59 left → rest ≡ text_of name ++ left → ⊥

-- ---- the arguments

-- the text spells nothing of this kind
abbrev pub SpellsNothing : ArgumentKind → List ℕ → Type 0
SpellsNothing kind text = (value : ArgumentValue) → argument_kind value ≡ kind → SpellsValue text value → ⊥

-- an argument that arguments of these kinds follow: it ends before the next semicolon, and the last with the line
abbrev pub IsArgument : List ArgumentKind → List ℕ → List ℕ → Type 0
IsArgument [] text after = after ≡ []
IsArgument (kind ∷ later) text after = (holds 59 text ≡ false) × Begins 59 after

-- no text holds a semicolon
abbrev pub AreSplit : List (List ℕ) → Type 0
AreSplit [] = Unit {0}
AreSplit (text ∷ texts) = (holds 59 text ≡ false) × AreSplit texts

-- the arguments before this one are good; it is of this kind, others of these kinds follow, and this is left for them
pub record IsAt (first : ℕ) (kinds : List ArgumentKind) (rest : List ℕ) (number : ℕ) (kind : ArgumentKind)
    (later : List ArgumentKind) (left : List ℕ) : Type 0 where
  pub texts : List (List ℕ)
  pub values : List ArgumentValue
  pub of_kinds : kinds ≡ map argument_kind values ++ kind ∷ later
  pub whole : rest ≡ joined texts ++ left
  pub split : AreSplit texts
  pub each : SpellEach texts values
  pub numbered : number ≡ first + length texts

-- the argument of this number is missing: the line ends before it
pub record IsMissing (first : ℕ) (kinds : List ArgumentKind) (rest : List ℕ) (number : ℕ) : Type 0 where
  pub kind : ArgumentKind
  pub later : List ArgumentKind
  pub at : IsAt first kinds rest number kind later []

-- the argument of this number is there, and spells nothing of its kind
pub record IsWrong (first : ℕ) (kinds : List ArgumentKind) (rest : List ℕ) (number : ℕ) (kind : ArgumentKind)
    : Type 0 where
  pub later : List ArgumentKind
  pub text : List ℕ
  pub after : List ℕ
  pub at : IsAt first kinds rest number kind later (59 ∷ (text ++ after))
  pub argument : IsArgument later text after
  pub nothing : SpellsNothing kind text

-- an argument that is a number or a code spells none
pub record IsNoNumber (first : ℕ) (kinds : List ArgumentKind) (rest : List ℕ) (number : ℕ) : Type 0 where
  pub kind : ArgumentKind
  pub numeric : kind ≢ Name
  pub wrong : IsWrong first kinds rest number kind

-- the first fault of arguments of these kinds, which are numbered from this one on
abbrev pub HasArgumentFault : ℕ → List ArgumentKind → List ℕ → LineFault → Type 0
HasArgumentFault first kinds rest fault.ExtraArgument = (kinds ≡ []) × (0 < length rest)
HasArgumentFault first kinds rest (fault.MissingArgument number) = IsMissing first kinds rest number
HasArgumentFault first kinds rest (fault.EmptyName number) = IsWrong first kinds rest number Name
HasArgumentFault first kinds rest (fault.BadNumber number) = IsNoNumber first kinds rest number
HasArgumentFault first kinds rest fault = ⊥

-- ---- the line

-- the arguments of the line's command have this fault first
pub record IsFaultyCall (line : List ℕ) (cause : LineFault) : Type 0 where
  pub name : CommandName
  pub left : List ℕ
  pub called : IsCall line name left
  pub faulty : HasArgumentFault 1 (kinds_of name) left cause

-- the first fault of the line is this one
abbrev pub HasFault : List ℕ → LineFault → Type 0
HasFault line fault.TooLong = 8192 < length line
HasFault line fault.BadByte = (length line ≤ 8192) × (list_any is_barred line ≡ true)
HasFault line fault.NoTime = IsPlain line × ((rest : List ℕ) → IsTimed line rest → ⊥)
HasFault line fault.UnknownCommand = (rest : List ℕ) × IsTimed line rest × CallsNothing rest
HasFault line cause = IsFaultyCall line cause

-- the line spells a command that takes memory
abbrev pub TakesMemory : List ℕ → Type 0
TakesMemory line = (command : Command) × Spells line command × IsTrue (takes_memory (name_of command.body))

-- the line is refused for this cause: out of memory only where its command takes memory, any other as its first fault
abbrev pub IsRefusal : List ℕ → LineFault → Type 0
IsRefusal line fault.OutOfMemory = TakesMemory line
IsRefusal line cause = HasFault line cause

-- the answer is the only command that the line spells, or out of memory
abbrev pub IsOnlyCommand : List ℕ → Result Command LineFault → Type 0
IsOnlyCommand line answer =
    (command : Command) → Spells line command
    → MatchResult answer (λ read. read ≡ command) (λ cause. cause ≡ fault.OutOfMemory)
