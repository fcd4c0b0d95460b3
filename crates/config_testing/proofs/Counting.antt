-- Lines of a table that are counted, one after another.
use Rattle.std.proofs.Common.{◌≡◌, ℕ, ◌+◌, ◌<◌, Bool, true, false, cond, List, length, drop, Some, None, inl, inr, ap, ◌∙◌, arith}
use Rattle.std.specs.Prelude.{slice_get}
use Rattle.std.specs.List.{count_by}
use Rattle.std.proofs.lemmas.List.Sums.{sum_by-drop_more}
use Rattle.std.proofs.lemmas.Option.{slice_get_within, get_or_from_slice_get, slice_get_cases}

one_more : {A : Type 0} (p : A → Bool) (list : List A) (place : ℕ) (line : A) → slice_get list place ≡ Some line
    → count_by p (drop place list) ≡ cond (p line) 1 0 + count_by p (drop (place + 1) list)
one_more p list place line found =
    sum_by-drop_more (λ one. cond (p one) 1 0) list place line (slice_get_within list place line found)
    ∙ ap (λ one. cond (p one) 1 0 + count_by p (drop (place + 1) list)) (get_or_from_slice_get list place line line found)

-- a line is counted
pub counted : {A : Type 0} (p : A → Bool) (list : List A) (place count whole : ℕ) (line : A) → slice_get list place ≡ Some line → p line ≡ true
    → count + count_by p (drop place list) ≡ whole → count + 1 + count_by p (drop (place + 1) list) ≡ whole
counted p list place count whole line found is so_far =
    let more = one_more p list place line found ∙ ap (λ one. cond one 1 0 + count_by p (drop (place + 1) list)) is in
    omega (arith, more, so_far)

-- a line is passed over
pub passed : {A : Type 0} (p : A → Bool) (list : List A) (place count whole : ℕ) (line : A) → slice_get list place ≡ Some line → p line ≡ false
    → count + count_by p (drop place list) ≡ whole → count + count_by p (drop (place + 1) list) ≡ whole
passed p list place count whole line found is so_far =
    let more = one_more p list place line found ∙ ap (λ one. cond one 1 0 + count_by p (drop (place + 1) list)) is in
    omega (arith, more, so_far)

-- a place within the list has a line
pub none_missing : {A : Type 0} (list : List A) (place : ℕ) → slice_get list place ≡ None → place < length list → ⊥
none_missing list place missing within =
    elim (slice_get_cases list place).1 [ inl found ↦ cc | inr past ↦ omega arith ]
