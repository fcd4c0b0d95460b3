-- A text that is appended in steps.
use Rattle.std.proofs.Common.{◌≡◌, ℕ, List, ◌++◌, Result, Ok, Err, OnOk, ap, ◌∙◌, append_assoc}

-- one text, and then that of a call
pub last : {E : Type 0} (r : Result (Unit {0}) E) (out between new one two : List ℕ) → between ≡ out ++ one
    → OnOk r (new ≡ between ++ two) → OnOk r (new ≡ out ++ (one ++ two))
last (Ok u) out between new one two first second = second ∙ ap (λ text. text ++ two) first ∙ append_assoc out one two
last (Err e) out between new one two first second = tt
