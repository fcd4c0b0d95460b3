-- What was found of an argument.
use Rattle.std.proofs.Common.{◌≡◌, ◌++◌, ◌+◌, ◌<◌, ◌≤◌, ℕ, suc, List, [], ◌∷◌, length, drop, get_or, map, Option, Some, None, unwrap_or, Bor, refl, ap, sym, ◌∙◌, arith, append_assoc, append-nil, add-one, drop-cons}
use Rattle.std.proofs.lemmas.List.{at_drop_more, drop_all}
use Rattle.clap.specs.Walk.{texts}

-- the default of what was found, or of what was not
pub given : {A : Type 0} {value : A} {found : Option A} (default : A) → Some value ≡ found → value ≡ unwrap_or found default
given default is = ap (λ found. unwrap_or found default) is

pub not_given : {A : Type 0} {found : Option A} (default : A) → None ≡ found → default ≡ unwrap_or found default
not_given default is = ap (λ found. unwrap_or found default) is

-- the word of a turn, and what is left before it
abbrev pub word_at : List (Bor (List ℕ)) → ℕ → List ℕ
word_at words index = (get_or words index (record { ref_ptr = (0, 0); now = [] })).now

pub left_at : (words : List (Bor (List ℕ))) (index : ℕ) → index < length words
    → texts (drop index words) ≡ word_at words index ∷ texts (drop (index + 1) words)
left_at words index within = at_drop_more texts words index (record { ref_ptr = (0, 0); now = [] }) within

pub one_more : (copies : List (List ℕ)) (text : List ℕ) (rest whole : List (List ℕ)) (left : List (List ℕ)) → left ≡ text ∷ rest
    → copies ++ left ≡ whole → (copies ++ text ∷ []) ++ rest ≡ whole
one_more copies text rest whole left is all = append_assoc copies (text ∷ []) rest ∙ ap (λ more. copies ++ more) (sym is) ∙ all

pub all_copied : (copies : List (List ℕ)) (words : List (Bor (List ℕ))) (index : ℕ) → length words ≤ index
    → copies ++ texts (drop index words) ≡ texts words → copies ≡ texts words
all_copied copies words index end all =
    sym (append-nil copies) ∙ ap (λ left. copies ++ texts left) (sym (drop_all index words end)) ∙ all
