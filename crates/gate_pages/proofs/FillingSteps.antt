-- Rows that are filled one line of the table after another.
use Rattle.std.proofs.Common.{◌≡◌, ℕ, suc, ◌+◌, ◌<◌, ◌≤◌, List, [], ◌∷◌, ◌++◌, length, get_or, map, drop, Some, None, sym, ap, ◌∙◌, inl, inr, arith, append_assoc, append-nil, add-one, drop-cons}
use Rattle.std.specs.Prelude.{slice_get}
use Rattle.std.specs.List.{enumerate_from}
use Rattle.std.proofs.lemmas.List.{at_drop_more, at_drop_all}
use Rattle.std.proofs.lemmas.Option.{slice_get_within, get_or_from_slice_get, slice_get_cases}

-- one more row
pub row-added : {A B : Type 0} (show : ℕ × A → B) (rows before : List B) (list : List A) (place : ℕ) (line : A) (row : B) (whole : List B)
    → slice_get list place ≡ Some line
    → row ≡ show (place, line)
    → rows ≡ before ++ row ∷ []
    → before ++ map show (enumerate_from place (drop place list)) ≡ whole
    → rows ++ map show (enumerate_from (place + 1) (drop (place + 1) list)) ≡ whole
row-added show rows before list place line row whole found is pushed so_far =
    let within : place < length list = slice_get_within list place line found in
    let there : drop place list ≡ line ∷ drop (place + 1) list =
    rw add-one (drop-cons list place line within ∙ ap (λ first. first ∷ drop (suc place) list) (get_or_from_slice_get list place line line found))
    in
    rw (pushed, is)
    (append_assoc before (show (place, line) ∷ []) (map show (enumerate_from (place + 1) (drop (place + 1) list)))
    ∙ ap (λ rest. before ++ map show (enumerate_from place rest)) (sym there)
    ∙ so_far)

-- a place within the list has a line
pub none-missing : {A : Type 0} (list : List A) (place : ℕ) → slice_get list place ≡ None → place < length list → ⊥
none-missing list place missing within =
    elim (slice_get_cases list place).1 [ inl found ↦ cc | inr past ↦ omega arith ]

-- the row of the first of those that are left
pub first-added : {A B : Type 0} (show : A → B) (rows before : List B) (left rest : List A) (first : A) (row : B) (whole : List B)
    → left ≡ first ∷ rest
    → row ≡ show first
    → rows ≡ before ++ row ∷ []
    → before ++ map show left ≡ whole
    → rows ++ map show rest ≡ whole
first-added {A} {B} show rows before left rest first row whole next is pushed so_far =
    ap (λ front. front ++ map show rest) (pushed ∙ ap (λ (last : B). before ++ last ∷ []) is)
    ∙ append_assoc before (show first ∷ []) (map show rest)
    ∙ ap (λ (all : List A). before ++ map show all) (sym next)
    ∙ so_far

-- the row of the element at this index
pub next-added : {A B : Type 0} (show : A → B) (rows before : List B) (list : List A) (index : ℕ) (default : A) (row : B) (whole : List B)
    → index < length list
    → row ≡ show (get_or list index default)
    → rows ≡ before ++ row ∷ []
    → before ++ map show (drop index list) ≡ whole
    → rows ++ map show (drop (index + 1) list) ≡ whole
next-added {A} show rows before list index default row whole within =
    first-added show rows before (drop index list) (drop (index + 1) list) (get_or list index default) row whole
    (at_drop_more (λ (all : List A). all) list index default within)

-- a row stands for each
pub all-added : {A B : Type 0} (show : A → B) (rows : List B) (list : List A) (index : ℕ) (whole : List B) → length list ≤ index
    → rows ++ map show (drop index list) ≡ whole → rows ≡ whole
all-added show rows list index whole past so_far =
    sym (append-nil rows) ∙ ap (λ back. rows ++ back) (sym (at_drop_all (map show) list index past)) ∙ so_far
