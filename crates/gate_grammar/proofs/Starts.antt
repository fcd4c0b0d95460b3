-- What starts with a text, as bytes are appended to it.
use Rattle.std.proofs.Common.{ℕ, List, ◌++◌, ap, ◌∙◌, append_assoc, Result, Ok, Err, OnErr}
use Rattle.gate_grammar.specs.Canonical.{StartsWith}

pub starts_after : (text middle front : List ℕ) → StartsWith text middle → StartsWith middle front → StartsWith text front
starts_after text middle front one other = record {
  rest = other.rest ++ one.rest;
  whole = one.whole ∙ (ap (λ x. x ++ one.rest) other.whole ∙ append_assoc front other.rest one.rest);
}

pub on_err : {A B : Type 0} (answer : Result A B) (P : Type 0) → P → OnErr answer P
on_err (Ok found) P holds = tt
on_err (Err cause) P holds = holds
