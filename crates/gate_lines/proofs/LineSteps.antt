-- A line that is appended field by field.
use Rattle.std.proofs.Common.{◌≡◌, ℕ, ◌+◌, ◌<◌, ◌≤◌, List, [], ◌∷◌, ◌++◌, length, get_or, drop, Result, Ok, Err, sym, ap, ◌∙◌, append-nil, append_assoc, arith}
use Rattle.std.specs.List.{flat_map, zip}
use Rattle.std.proofs.lemmas.List.{at_drop_more, at_drop_all}
use Rattle.std.specs.Prelude.{if◌then◌else◌, is_ok, OnOk, codes}
use Rattle.gate_grammar.specs.Spelling.{joined}
use Rattle.gate_lines.specs.Lines.{page_line}

-- what is there, and then each field after a semicolon
abbrev pub appended : List ℕ → List (List ℕ) → List ℕ
appended out [] = out
appended out (field ∷ fields) = appended (out ++ 59 ∷ field) fields

appended-joined : (out : List ℕ) (fields : List (List ℕ)) → appended out fields ≡ out ++ joined fields
appended-joined out [] = sym (append-nil out)
appended-joined out (field ∷ fields) =
    appended-joined (out ++ 59 ∷ field) fields ∙ append_assoc out (59 ∷ field) (joined fields)

-- a word, the fields and LF are a line
pub line-appended : (out word : List ℕ) (fields : List (List ℕ))
    → appended (out ++ word) fields ++ codes "\n" ≡ out ++ page_line word fields
line-appended out word fields =
    ap (λ front. front ++ codes "\n") (appended-joined (out ++ word) fields)
    ∙ append_assoc (out ++ word) (joined fields) (codes "\n")
    ∙ append_assoc out word (joined fields ++ codes "\n")
    ∙ ap (λ rest. out ++ rest) (sym (append_assoc word (joined fields) (codes "\n")))

-- once the LF is appended, the line is whole
pub line-ended : {E : Type 0} (result : Result (Unit {0}) E) (front back whole : List ℕ)
    → back ≡ (if is_ok result then front ++ codes "\n" else front)
    → front ++ codes "\n" ≡ whole
    → OnOk result (back ≡ whole)
line-ended (Ok done) front back whole is all = is ∙ all
line-ended (Err fault) front back whole is all = tt

-- one more row is appended
pub row-appended : {Row : Type 0} (line : Row → List ℕ) (rows : List Row) (index : ℕ) (row : Row) (out new whole : List ℕ)
    → index < length rows → row ≡ get_or rows index row → new ≡ out ++ line row
    → out ++ flat_map line (drop index rows) ≡ whole → new ++ flat_map line (drop (index + 1) rows) ≡ whole
row-appended line rows index row out new whole less is added same =
    let rest = flat_map line (drop (index + 1) rows) in
    ap (λ front. front ++ rest) added
    ∙ append_assoc out (line row) rest
    ∙ ap (λ next. out ++ (line next ++ rest)) is
    ∙ ap (λ back. out ++ back) (sym (at_drop_more (flat_map line) rows index row less))
    ∙ same

-- every row is appended
pub rows-appended : {Row : Type 0} (line : Row → List ℕ) (rows : List Row) (index : ℕ) (out whole : List ℕ)
    → length rows ≤ index → out ++ flat_map line (drop index rows) ≡ whole → out ≡ whole
rows-appended line rows index out whole done same =
    sym (append-nil out) ∙ ap (λ back. out ++ back) (sym (at_drop_all (flat_map line) rows index done)) ∙ same

-- one more row is appended, with what stands beside it
pub pair-appended : {Row Mark : Type 0} (line : Row × Mark → List ℕ) (rows : List Row) (marks : List Mark) (index : ℕ) (row : Row) (mark : Mark) (out new whole : List ℕ)
    → length rows ≡ length marks → index < length rows → row ≡ get_or rows index row → new ≡ out ++ line (row, get_or marks index mark)
    → out ++ flat_map line (zip (drop index rows) (drop index marks)) ≡ whole
    → new ++ flat_map line (zip (drop (index + 1) rows) (drop (index + 1) marks)) ≡ whole
pair-appended {Row} {Mark} line rows marks index row mark out new whole long less is added same =
    let here = get_or marks index mark in
    let rest = flat_map line (zip (drop (index + 1) rows) (drop (index + 1) marks)) in
    ap (λ front. front ++ rest) added
    ∙ append_assoc out (line (row, here)) rest
    ∙ ap (λ next. out ++ (line (next, here) ++ rest)) is
    ∙ ap (λ back. out ++ back) (sym (at_drop_more (λ (l : List Mark). flat_map line (zip (get_or rows index row ∷ drop (index + 1) rows) l)) marks index mark (omega arith)))
    ∙ ap (λ back. out ++ back) (sym (at_drop_more (λ (l : List Row). flat_map line (zip l (drop index marks))) rows index row less))
    ∙ same

-- every row is appended, with what stands beside it
pub pairs-appended : {Row Mark : Type 0} (line : Row × Mark → List ℕ) (rows : List Row) (marks : List Mark) (index : ℕ) (out whole : List ℕ)
    → length rows ≤ index → out ++ flat_map line (zip (drop index rows) (drop index marks)) ≡ whole → out ≡ whole
pairs-appended {Row} line rows marks index out whole done same =
    sym (append-nil out) ∙ ap (λ back. out ++ back) (sym (at_drop_all (λ (l : List Row). flat_map line (zip l (drop index marks))) rows index done)) ∙ same
