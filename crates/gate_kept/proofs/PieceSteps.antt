-- One more piece of kept bytes.
use Rattle.std.proofs.Common.{◌≡◌, ℕ, List, [], ◌∷◌, ◌++◌, append_assoc, sym, subst, ap, ◌∙◌}
use Rattle.std.specs.List.{concat, AllByRecursion}
use Rattle.gate_kept.proofs.GiveSteps.{all_with, concat_with}

pub piece_added : (bytes left piece more : List ℕ) (pieces after : List (List ℕ)) → bytes ≡ concat pieces ++ left → left ≡ piece ++ more → after ≡ pieces ++ piece ∷ []
    → bytes ≡ concat after ++ more
piece_added bytes left piece more pieces after whole is added =
    whole ∙ ap (λ l. concat pieces ++ l) is ∙ sym (append_assoc (concat pieces) piece more)
    ∙ ap (λ l. l ++ more) (sym (concat_with pieces piece)) ∙ ap (λ l. concat l ++ more) (sym added)

pub all_added : (P : List ℕ → Type 0) (pieces after : List (List ℕ)) (piece : List ℕ) → AllByRecursion P pieces → P piece → after ≡ pieces ++ piece ∷ [] → AllByRecursion P after
all_added P pieces after piece all one added = subst (λ l. AllByRecursion P l) (sym added) (all_with P pieces piece all one)
