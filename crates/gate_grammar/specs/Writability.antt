-- Which commands have a line. Own rule: those that can be read back from it.
use Rattle.std.specs.Prelude.{◌≡◌, ◌≤◌, ◌<◌, ◌^◌, List, [], ◌∷◌, length, false, pos, negsuc}
use Rattle.std.specs.List.{list_any, AllByRecursion}
use Rattle.gate_model.specs.declared.submission.Body.{Body}
use Rattle.gate_grammar.specs.declared.commands.Command.{Command}
use Rattle.gate_grammar.specs.Arguments.{ArgumentValue, Name, Number, Code, Text}
use Rattle.gate_grammar.specs.Commands.{values_of}
use Rattle.gate_grammar.specs.Spelling.{is_barred, ends_in_blank, holds}
use Rattle.gate_grammar.specs.Canonical.{canonical_line}

-- no text holds a NUL or an LF, and no name is empty
abbrev pub IsClean : ArgumentValue → Type 0
IsClean (Name text) = (0 < length text) × (list_any is_barred text ≡ false)
IsClean (Number number) = Unit {0}
IsClean (Code code) = Unit {0}
IsClean (Text text) = list_any is_barred text ≡ false

-- the argument's text holds no semicolon
abbrev pub HoldsNoSemicolon : ArgumentValue → Type 0
HoldsNoSemicolon (Name text) = holds 59 text ≡ false
HoldsNoSemicolon (Number number) = Unit {0}
HoldsNoSemicolon (Code code) = Unit {0}
HoldsNoSemicolon (Text text) = holds 59 text ≡ false

-- the argument's text doesn't end in a blank
abbrev pub EndsInNoBlank : ArgumentValue → Type 0
EndsInNoBlank (Name text) = ends_in_blank text ≡ false
EndsInNoBlank (Number number) = Unit {0}
EndsInNoBlank (Code code) = Unit {0}
EndsInNoBlank (Text text) = ends_in_blank text ≡ false

-- all but the last hold no semicolon, and the last ends in no blank
abbrev pub AreWritable : List ArgumentValue → Type 0
AreWritable [] = Unit {0}
AreWritable (last ∷ []) = IsClean last × EndsInNoBlank last
AreWritable (value ∷ next ∷ values) = IsClean value × HoldsNoSemicolon value × AreWritable (next ∷ values)

-- the command's line isn't too long, and its arguments can stand in one
pub record IsWritable (command : Command) : Type 0 where
  pub short : length (canonical_line command) ≤ 8192
  pub arguments : AreWritable (values_of command.body)

-- ---- the range of numbers, which a law over all commands has to name

-- a number has 32 bits, a code 16 bits with its sign
abbrev pub IsInRange : ArgumentValue → Type 0
IsInRange (Name text) = Unit {0}
IsInRange (Number number) = number < 2 ^ 32
IsInRange (Code (pos code)) = code < 32768
IsInRange (Code (negsuc code)) = code < 32768
IsInRange (Text text) = Unit {0}

-- the numbers of a body have 32 bits, and its codes 16
abbrev pub AreInRange : Body → Type 0
AreInRange body = AllByRecursion IsInRange (values_of body)
