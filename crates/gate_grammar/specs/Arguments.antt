-- The arguments of a command (External Command List). Own rule: an argument is a name, an unsigned number, a code (a
-- number with a sign) or a text.
use Rattle.std.specs.Prelude.{ℕ, ℤ, pos, List, [], slice_index_or}
use Rattle.gate_grammar.specs.declared.arguments.ArgumentKind.{ArgumentKind}
use Rattle.gate_grammar.specs.declared.arguments.ArgumentKind.TheVariants as kind

-- the value of an argument, without where it stands in memory
pub data ArgumentValue : Type 0 where
  Name : (text : List ℕ) → ArgumentValue
  Number : (number : ℕ) → ArgumentValue
  Code : (code : ℤ) → ArgumentValue
  Text : (text : List ℕ) → ArgumentValue

-- the kind of a value
abbrev pub argument_kind : ArgumentValue → ArgumentKind
argument_kind (Name text) = kind.Name
argument_kind (Number number) = kind.Number
argument_kind (Code code) = kind.Code
argument_kind (Text text) = kind.Text

-- ---- one value as what it is; a value of another kind is empty, or 0

-- the bytes of a name or a text
abbrev pub as_text : ArgumentValue → List ℕ
as_text (Name text) = text
as_text (Number number) = []
as_text (Code code) = []
as_text (Text text) = text

-- the number of a number
abbrev pub as_number : ArgumentValue → ℕ
as_number (Name text) = 0
as_number (Number number) = number
as_number (Code code) = 0
as_number (Text text) = 0

-- the number of a code
abbrev pub as_code : ArgumentValue → ℤ
as_code (Name text) = pos 0
as_code (Number number) = pos 0
as_code (Code code) = code
as_code (Text text) = pos 0

-- ---- the value at an index; past the end it is a number 0

-- the value at this index
abbrev pub value_in : List ArgumentValue → ℕ → ArgumentValue
value_in values index = slice_index_or values index (Number 0)

-- the bytes of the value at this index
abbrev pub text_in : List ArgumentValue → ℕ → List ℕ
text_in values index = as_text (value_in values index)

-- the number at this index
abbrev pub number_in : List ArgumentValue → ℕ → ℕ
number_in values index = as_number (value_in values index)

-- the code at this index
abbrev pub code_in : List ArgumentValue → ℕ → ℤ
code_in values index = as_code (value_in values index)
