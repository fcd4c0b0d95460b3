-- For proofs and private functions alone: what was written.
use Rattle.std.specs.Prelude.{◌≡◌, ℕ, List, ◌∷◌, ◌++◌}
use Rattle.json.specs.Token as token
use Rattle.json.specs.Token.{Token}
use Rattle.json.specs.Json.{Json}
use Rattle.json.specs.Tree.{json_tokens}
use Rattle.json.specs.Written.{Written}

-- these tokens were written after the others
pub record Adds (old new : Written) (more : List Token) : Type 0 where
  pub before : new.before ≡ old.before
  pub added : new.tokens ≡ old.tokens ++ more

-- the tokens of a member of an object
abbrev pub member_tokens : List ℕ → Json → List Token
member_tokens name value = token.key name ∷ json_tokens value

-- these bytes were written after the others
pub record Appends (old new more : List ℕ) : Type 0 where
  pub added : new ≡ old ++ more
