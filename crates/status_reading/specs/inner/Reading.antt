-- For proofs and private functions alone: what is read from a text.
use Rattle.std.specs.Prelude.{◌≡◌, ◌≤◌, ℕ, List, ◌∷◌, length, map, MatchOption, Option}
use Rattle.std.specs.Borrow.{Bor}
use Rattle.gate_grammar.specs.Spelling.{joined, IsSplit}
use Rattle.status_reading.specs.Rows.{PageView}
use Rattle.status_reading.specs.Page.{page_text}
use Rattle.status_reading.specs.Readable.{IsReadable}
use Rattle.status_reading.specs.Faults.{line_count}

-- what was found is written so; where nothing was found, nothing that can be read is
abbrev pub Reads : {A : Type 0} → (A → Type 0) → (A → List ℕ) → List ℕ → Option A → Type 0
Reads {A} readable written text found =
    MatchOption found ((x : A) → readable x → text ≡ written x → ⊥) (λ x. (text ≡ written x) × readable x)

-- the same of words, each of which can be read
abbrev pub Names : {A : Type 0} → (A → List ℕ) → List ℕ → Option A → Type 0
Names {A} written text found = MatchOption found ((x : A) → text ≡ written x → ⊥) (λ x. text ≡ written x)

-- the text is these fields with a semicolon between them, of which none but the last holds one
abbrev pub AreFieldsOf : List (List ℕ) → List ℕ → Type 0
AreFieldsOf fields text = (59 ∷ text ≡ joined fields) × IsSplit fields

-- the text is the fields of what was found; where nothing was found, it is those of nothing that can be read
abbrev pub ReadsFields : {A : Type 0} → (A → Type 0) → (A → List (List ℕ)) → List ℕ → Option A → Type 0
ReadsFields readable fields text found = Reads readable (λ x. joined (fields x)) (59 ∷ text) found

-- the texts that these references point to
abbrev pub texts_of : List (Bor (List ℕ)) → List (List ℕ)
texts_of references = map (λ (reference : Bor (List ℕ)). reference.now) references

-- the text is that of this page, which can be read and has no more lines than the text has bytes
pub record IsPageOf (text : List ℕ) (page : PageView) : Type 0 where
  pub whole : text ≡ page_text page
  pub readable : IsReadable page
  pub short : line_count page ≤ length text
