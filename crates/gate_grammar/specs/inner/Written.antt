-- Only proofs and private functions use this file: the text of arguments in memory, and how a text is written.
use Rattle.std.specs.Prelude.{◌≡◌, ℕ, List, ◌++◌, map, Result, OnOk, OnErr}
use Rattle.std.specs.declared.alloc.AllocError.{AllocError}
use Rattle.gate_grammar.specs.declared.arguments.Argument.{Argument}
use Rattle.gate_grammar.specs.Spelling.{joined}
use Rattle.gate_grammar.specs.Canonical.{shown, StartsWith}
use Rattle.gate_grammar.specs.inner.Values.{value_of}

-- each argument's text after a semicolon
abbrev pub written : List Argument → List ℕ
written arguments = joined (map shown (map value_of arguments))

-- the text was appended, or memory ran out and the buffer still starts with the bytes that it held
pub record Appends (text : List ℕ) (result : Result (Unit {0}) AllocError) (old new : List ℕ) : Type 0 where
  pub ok : OnOk result (new ≡ old ++ text)
  pub err : OnErr result (StartsWith new old)
