-- A line, read from the left up to its first fault: the same as `Spells` and `HasFault`, as a function that can be
-- computed. `first_fault` is the main definition.
use Rattle.std.specs.Prelude.{ℕ, ◌+◌, ◌-◌, List, [], ◌∷◌, length, take, drop, slice_index, Option, Some, None, Result, Ok, Err, nat_lt, ◌==◌, bytes_eq, if◌then◌else◌}
use Rattle.std.specs.List.{list_any, before_first, position_or_len, suffix_len}
use Rattle.gate_grammar.specs.declared.arguments.ArgumentKind.{ArgumentKind}
use Rattle.gate_grammar.specs.declared.arguments.ArgumentKind.TheVariants as kind
use Rattle.gate_grammar.specs.declared.commands.CommandName.{CommandName}
use Rattle.gate_grammar.specs.declared.faults.LineFault.{LineFault}
use Rattle.gate_grammar.specs.declared.faults.LineFault.TheVariants as fault
use Rattle.gate_grammar.specs.declared.parsing.ParsedLine.{ParsedLine}
use Rattle.gate_grammar.specs.Numbers.{number_of, code_of}
use Rattle.gate_grammar.specs.Arguments.{ArgumentValue, Name, Number, Code, Text}
use Rattle.gate_grammar.specs.Commands.{text_of, kinds_of, command_names}
use Rattle.gate_grammar.specs.Spelling.{is_barred, is_blank}

infixl 10 ◌>>=◌
-- the second step, where the first found no fault
abbrev pub ◌>>=◌ : {A B : Type 0} → Result A LineFault → (A → Result B LineFault) → Result B LineFault
(Ok found) >>= next = next found
(Err fault) >>= next = Err fault

-- ---- cuts of a line

-- what stands before the first such byte, or everything
abbrev pub text_before : ℕ → List ℕ → List ℕ
text_before mark text = before_first (λ byte. byte == mark) text

-- from the first such byte on, or nothing
abbrev pub text_from : ℕ → List ℕ → List ℕ
text_from mark text = drop (position_or_len (λ byte. byte == mark) text) text

-- without the blanks at the end
abbrev pub without_blanks : List ℕ → List ℕ
without_blanks line = take (length line - suffix_len is_blank line) line

-- ---- the time

-- the moment, and what stands after the bracket and a space
abbrev pub time_before : List ℕ → Option ℕ → Result (ℕ × List ℕ) LineFault
time_before rest None = Err fault.NoTime
time_before rest (Some entered) = if slice_index rest 1 == 32 then Ok (entered, drop 2 rest) else Err fault.NoTime

-- the moment between the brackets at the start, and what stands after the bracket and a space
unfoldable pub time_at : List ℕ → Result (ℕ × List ℕ) LineFault
time_at line =
    if slice_index line 0 == 91 then time_before (text_from 93 (drop 1 line)) (number_of (text_before 93 (drop 1 line)))
    else Err fault.NoTime

-- ---- the name

-- the first of these names that has this text
abbrev pub name_among : List CommandName → List ℕ → Option CommandName
name_among [] text = None
name_among (name ∷ names) text = if bytes_eq (text_of name) text then Some name else name_among names text

-- the command of this name
unfoldable pub name_at : List ℕ → Option CommandName
name_at text = name_among command_names text

-- the command, where there is one of that name
abbrev pub known : Option CommandName → Result CommandName LineFault
known None = Err fault.UnknownCommand
known (Some name) = Ok name

-- ---- the arguments

-- the argument of this number, where its text is a number or a code
abbrev pub numeric : {A : Type 0} → (A → ArgumentValue) → ℕ → Option A → Result ArgumentValue LineFault
numeric make number None = Err (fault.BadNumber number)
numeric make number (Some found) = Ok (make found)

-- the value of the argument of this number, from 1
unfoldable pub value_at : ArgumentKind → ℕ → List ℕ → Result ArgumentValue LineFault
value_at kind.Name number [] = Err (fault.EmptyName number)
value_at kind.Name number (byte ∷ rest) = Ok (Name (byte ∷ rest))
value_at kind.Number number text = numeric Number number (number_of text)
value_at kind.Code number text = numeric Code number (code_of text)
value_at kind.Text number text = Ok (Text text)

-- the text of an argument that arguments of these kinds follow: the last takes all
abbrev pub argument_text : List ArgumentKind → List ℕ → List ℕ
argument_text [] text = text
argument_text (kind ∷ kinds) text = text_before 59 text

-- what stands after it
abbrev pub argument_rest : List ArgumentKind → List ℕ → List ℕ
argument_rest [] text = []
argument_rest (kind ∷ kinds) text = text_from 59 text

-- the values of the arguments from this number on; the bytes are none, or begin with a semicolon
unfoldable pub values_at : ℕ → List ArgumentKind → List ℕ → Result (List ArgumentValue) LineFault
values_at number [] [] = Ok []
values_at number [] (semicolon ∷ text) = Err fault.ExtraArgument
values_at number (kind ∷ kinds) [] = Err (fault.MissingArgument number)
values_at number (kind ∷ kinds) (semicolon ∷ text) = do
  value ← value_at kind number (argument_text kinds text)
  values ← values_at (number + 1) kinds (argument_rest kinds text)
  Ok (value ∷ values)

-- ---- the line

-- the fields of a line without blanks at its end
unfoldable pub fields_at : List ℕ → Result ParsedLine LineFault
fields_at line = do
  time ← time_at line
  name ← known (name_at (text_before 59 time.1))
  values ← values_at 1 (kinds_of name) (text_from 59 time.1)
  Ok (record { entered = record { 0 = time.0 }; name = name; arguments = values })

-- the line's fields, or its first fault
unfoldable pub parsed_line : List ℕ → Result ParsedLine LineFault
parsed_line line =
    if nat_lt 8192 (length line) then Err fault.TooLong
    else if list_any is_barred line then Err fault.BadByte
    else fields_at (without_blanks line)

-- the fault that was met
abbrev pub fault_in : {A : Type 0} → Result A LineFault → Option LineFault
fault_in (Ok found) = None
fault_in (Err fault) = Some fault

-- the first fault of the line, if it has one
abbrev pub first_fault : List ℕ → Option LineFault
first_fault line = fault_in (parsed_line line)

-- ---- the answer of `read_line`

-- the fault of the line that the answer reports; out of memory is none of the line's
abbrev pub line_fault_in : {A : Type 0} → Result A LineFault → Option LineFault
line_fault_in (Ok found) = None
line_fault_in (Err fault.OutOfMemory) = None
line_fault_in (Err fault) = Some fault
