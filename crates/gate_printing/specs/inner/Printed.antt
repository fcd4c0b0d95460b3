-- Only proofs and private functions use this file: what a step of the printing does to its output.
use Rattle.std.specs.Prelude.{ℕ, List, map, Result, OnOk, OnErr}
use Rattle.gate_model.specs.Escaping.{escaped}
use Rattle.gate_grammar.specs.Arguments.{ArgumentValue}
use Rattle.gate_grammar.specs.Spelling.{joined}
use Rattle.gate_grammar.specs.Canonical.{shown}
use Rattle.gate_streams.specs.Sink.{SinkState, Writes, FailsOnce}

-- the text was written, or a call failed, after which no other was made
pub record Prints {X E : Type 0} (before after : SinkState) (result : Result X E) (text : List ℕ) : Type 0 where
  pub ok : OnOk result (Writes before after text)
  pub err : OnErr result (FailsOnce before after)

-- these values, each after a semicolon, as a page shows them
abbrev pub fields_text : List ArgumentValue → List ℕ
fields_text values = escaped (joined (map shown values))
