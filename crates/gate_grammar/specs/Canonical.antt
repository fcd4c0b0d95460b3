-- The canonical line of a command. Own rules: numbers without leading zeros, and nothing after the last argument.
-- `canonical_line` is the main definition.
use Rattle.std.specs.Prelude.{◌≡◌, ℕ, List, ◌++◌, map}
use Rattle.std.specs.Fmt.{decimal, signed_decimal}
use Rattle.gate_model.specs.declared.submission.Body.{Body}
use Rattle.gate_grammar.specs.declared.commands.Command.{Command}
use Rattle.gate_grammar.specs.Arguments.{ArgumentValue, Name, Number, Code, Text}
use Rattle.gate_grammar.specs.Commands.{text_of, name_of, values_of}
use Rattle.gate_grammar.specs.Spelling.{call, timed}

-- the text starts with this one
pub record StartsWith (text front : List ℕ) : Type 0 where
  pub rest : List ℕ
  pub whole : text ≡ front ++ rest

-- an argument's text
abbrev pub shown : ArgumentValue → List ℕ
shown (Name text) = text
shown (Number number) = decimal number
shown (Code code) = signed_decimal code
shown (Text text) = text

-- a body's text, as it stands after the time of a line
abbrev pub body_text : Body → List ℕ
body_text body = call (text_of (name_of body)) (map shown (values_of body))

-- a command's line
abbrev pub canonical_line : Command → List ℕ
canonical_line command = timed (decimal command.entered.0) (body_text command.body)
