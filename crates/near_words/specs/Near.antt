-- The word that a text is meant for, of some that are known: `nearest`. Edits are those of Levenshtein: a character is
-- added, left out or replaced. Own rule: at most two.
use Rattle.std.specs.Prelude.{ℕ, ◌==◌, List, length, find, nat_eq, Option, Some, None}
use Rattle.std.specs.Str.{chars}
use Rattle.strsim.specs.Edits.{levenshtein_row}

-- how many edits lead from one text to another
abbrev pub distance : List ℕ → List ℕ → ℕ
distance one other = levenshtein_row nat_eq (chars one) (chars other) (length (chars other))

-- the first word so many edits away
abbrev pub word_at : ℕ → List ℕ → List (List ℕ) → Option (List ℕ)
word_at edits text words = find (λ word. distance text word == edits) words

-- this word, or else the other
abbrev pub or_else : Option (List ℕ) → Option (List ℕ) → Option (List ℕ)
or_else (Some word) other = Some word
or_else None other = other

-- the first word one edit away, or else two
abbrev pub nearest : List ℕ → List (List ℕ) → Option (List ℕ)
nearest text words = or_else (word_at 1 text words) (word_at 2 text words)
