-- Only proofs and private functions use this file: the value of an argument in memory.
use Rattle.gate_grammar.specs.declared.arguments.Argument.{Argument}
use Rattle.gate_grammar.specs.declared.arguments.Argument.TheVariants as argument
use Rattle.gate_grammar.specs.Arguments.{ArgumentValue, Name, Number, Code, Text}

-- the value of an argument, wherever its text stands in memory
abbrev pub value_of : Argument → ArgumentValue
value_of (argument.Name text) = Name text.now
value_of (argument.Number number) = Number number
value_of (argument.Code code) = Code code
value_of (argument.Text text) = Text text.now
