-- What the proofs of private functions alone need: a name and a value of a query as texts.
use Rattle.std.specs.Prelude.{ℕ, ◌<◌, List, All, IsUtf8}

-- these bytes are a text, and so bytes
abbrev pub IsText : List ℕ → Type 0
IsText text = All (λ byte. byte < 256) text × IsUtf8 text

-- both are
abbrev pub IsTextPair : List ℕ × List ℕ → Type 0
IsTextPair pair = IsText pair.0 × IsText pair.1
