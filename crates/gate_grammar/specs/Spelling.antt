-- Which lines spell a command (Nagios Core 4 manual, External Commands; External Command List). Own rules: a line's
-- length, the bytes that it can't hold, its time, and the blanks at its end. `Spells` is the last definition.
use Rattle.std.specs.Prelude.{◌≡◌, ℕ, ◌<◌, ◌≤◌, List, [], ◌∷◌, ◌++◌, length, Bool, true, false, ◌||◌, ◌==◌, Some}
use Rattle.std.specs.List.{flat_map, list_any, list_all}
use Rattle.gate_grammar.specs.Numbers.{number_of, code_of}
use Rattle.gate_grammar.specs.declared.commands.Command.{Command}
use Rattle.gate_grammar.specs.Arguments.{ArgumentValue, Name, Number, Code, Text}
use Rattle.gate_grammar.specs.Commands.{text_of, name_of, values_of}

-- a byte that no line holds: NUL, or the LF that ends one
abbrev pub is_barred : ℕ → Bool
is_barred byte = byte == 0 || byte == 10

-- a space, a tab or a CR
abbrev pub is_blank : ℕ → Bool
is_blank byte = byte == 32 || byte == 9 || byte == 13

-- the text holds this byte
abbrev pub holds : ℕ → List ℕ → Bool
holds byte text = list_any (λ other. other == byte) text

-- the last byte is a blank
abbrev pub ends_in_blank : List ℕ → Bool
ends_in_blank [] = false
ends_in_blank (byte ∷ []) = is_blank byte
ends_in_blank (byte ∷ next ∷ rest) = ends_in_blank (next ∷ rest)

-- each text after a semicolon
abbrev pub joined : List (List ℕ) → List ℕ
joined texts = flat_map (λ text. 59 ∷ text) texts

-- no text but the last holds a semicolon
abbrev pub IsSplit : List (List ℕ) → Type 0
IsSplit [] = Unit {0}
IsSplit (last ∷ []) = Unit {0}
IsSplit (text ∷ next ∷ texts) = (holds 59 text ≡ false) × IsSplit (next ∷ texts)

-- the text spells the value, by the value's kind
abbrev pub SpellsValue : List ℕ → ArgumentValue → Type 0
SpellsValue text (Name name) = (text ≡ name) × (0 < length name)
SpellsValue text (Number number) = number_of text ≡ Some number
SpellsValue text (Code code) = code_of text ≡ Some code
SpellsValue text (Text whole) = text ≡ whole

-- as many texts as values, and each text spells its value
abbrev pub SpellEach : List (List ℕ) → List ArgumentValue → Type 0
SpellEach [] [] = Unit {0}
SpellEach (text ∷ texts) (value ∷ values) = SpellsValue text value × SpellEach texts values
SpellEach _ _ = ⊥

-- a command's name, and each argument after a semicolon
abbrev pub call : List ℕ → List (List ℕ) → List ℕ
call name arguments = name ++ joined arguments

-- `[time]`, a space, and the rest
abbrev pub timed : List ℕ → List ℕ → List ℕ
timed time rest = 91 ∷ (time ++ 93 ∷ 32 ∷ rest)

-- the line is a time, the command's name, its arguments and then blanks; what stands before the blanks ends in none
pub record Spells (line : List ℕ) (command : Command) : Type 0 where
  pub short : length line ≤ 8192
  pub clean : list_any is_barred line ≡ false
  pub time : List ℕ
  pub arguments : List (List ℕ)
  pub blanks : List ℕ
  pub whole : line ≡ timed time (call (text_of (name_of command.body)) arguments) ++ blanks
  pub moment : number_of time ≡ Some command.entered.0
  pub split : IsSplit arguments
  pub each : SpellEach arguments (values_of command.body)
  pub tight : ends_in_blank (timed time (call (text_of (name_of command.body)) arguments)) ≡ false
  pub blank : list_all is_blank blanks ≡ true
