-- The last of all clients of a new gate.
use Rattle.std.proofs.Common.{◌≡◌, ℕ, zero, suc, ◌+◌, List, [], ◌∷◌, ◌++◌, length, None, refl, sym, ap, ◌∙◌, arith, length-append}
use Rattle.gate_queue.specs.Gate.{GateId}
use Rattle.gate_queue.specs.Client.{ClientState, client_state}
use Rattle.gate_queue.specs.Opening.{new_clients}

abbrev head_or : {X : Type 0} → X → List X → X
head_or other [] = other
head_or other (x ∷ xs) = x

abbrev tail : {X : Type 0} → List X → List X
tail [] = []
tail (x ∷ xs) = xs

same_last : {X : Type 0} (xs ys : List X) (x y : X) → xs ++ x ∷ [] ≡ ys ++ y ∷ [] → (xs ≡ ys) × (x ≡ y)
same_last [] [] x y e = (refl, ap (head_or x) e)
same_last [] (b ∷ ys) x y e = let l = ap length e in let k = length-append ys (y ∷ []) in absurd (omega arith)
same_last (a ∷ xs) [] x y e = let l = ap length e in let k = length-append xs (x ∷ []) in absurd (omega arith)
same_last (a ∷ xs) (b ∷ ys) x y e =
    let t = same_last xs ys x y (ap tail e) in
    (ap (λ h. h ∷ xs) (ap (head_or a) e) ∙ ap (λ l. b ∷ l) t.0, t.1)

pub length_clients : (gate : GateId) (n : ℕ) → length (new_clients gate n) ≡ n
length_clients gate zero = refl
length_clients gate (suc n) = length-append (new_clients gate n) (client_state gate (suc n) [] None ∷ []) ∙ (let e = length_clients gate n in let f : length (new_clients gate n) + 1 ≡ suc n = omega arith in f)

-- the last of all clients has the greatest number, and the others are all clients below it
pub last_client : (gate : GateId) (old new : List ClientState) (x : ClientState) → old ≡ new_clients gate (length old) → old ≡ new ++ x ∷ [] → (x ≡ client_state gate (suc (length new)) [] None) × (new ≡ new_clients gate (length new))
last_client gate old new x all cut =
    let long : length old ≡ suc (length new) = ap length cut ∙ length-append new (x ∷ []) ∙ (let e : length new + 1 ≡ suc (length new) = omega arith in e) in
    let t = same_last new (new_clients gate (length new)) x (client_state gate (suc (length new)) [] None) (sym cut ∙ all ∙ ap (new_clients gate) long) in
    (t.1, t.0)
