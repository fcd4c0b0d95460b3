-- How long merged lists can be, and what is known of an item's number.
use Rattle.std.proofs.Common.{◌≡◌, ℕ, zero, suc, ◌+◌, ◌-◌, ◌*◌, ◌<◌, ◌≤◌, List, [], ◌∷◌, ◌++◌, length, Some, Bool, true, false, cond, eqb, eq-eqb, ne_eqb, refl, sym, ap, ◌∙◌, arith}
use Rattle.std.specs.Prelude.{slice_get, All}
use mathlib.Core.Logic.{dite}
use native.Mathlib.Decide.{ℕ_discrete}
use Rattle.gate_model.specs.declared.submission.Numbered.{Numbered}
use Rattle.gate_core.specs.Merge.{IsClient, of_client, IsCoreState}
use Rattle.gate_core.proofs.Merges.{of_client-append}

-- f of each client, added up
abbrev pub total : (ℕ → ℕ) → ℕ → ℕ
total f zero = 0
total f (suc n) = total f n + f (suc n)

total_zero : (n : ℕ) → total (λ _. 0) n ≡ 0
total_zero zero = refl
total_zero (suc n) = omega (arith, total_zero n)

total-add : (f g : ℕ → ℕ) (n : ℕ) → total (λ c. f c + g c) n ≡ total f n + total g n
total-add f g zero = refl
total-add f g (suc n) = omega (arith, total-add f g n)

pub total_same : (f g : ℕ → ℕ) (n : ℕ) → ((c : ℕ) → IsClient n c → f c ≡ g c) → total f n ≡ total g n
total_same f g zero h = refl
total_same f g (suc n) h = let last : f (suc n) ≡ g (suc n) = h (suc n) (omega arith, omega arith) in omega (arith, last, total_same f g n (λ c i. let low = i.0 in let high = i.1 in h c (omega arith, omega arith)))

-- one client alone
total_none : (d n : ℕ) → n < d → total (λ c. cond (eqb d c) 1 0) n ≡ 0
total_none d zero h = refl
total_none d (suc n) h = omega (arith, total_none d n (omega arith), ap {B = ℕ} (λ b. cond b 1 0) (ne_eqb d (suc n) (λ e. omega arith)))

total_one : (d n : ℕ) → IsClient n d → total (λ c. cond (eqb d c) 1 0) n ≡ 1
total_one d zero h = let low = h.0 in let high = h.1 in absurd (omega arith)
total_one d (suc n) h =
    let low = h.0 in let high = h.1 in
    dite (ℕ_discrete d (suc n)) (λ e. omega (arith, total_none d n (omega arith), ap {B = ℕ} (λ b. cond b 1 0) (eq-eqb d (suc n) e)))
    (λ ne. omega (arith, total_one d n (low, omega arith), ap {B = ℕ} (λ b. cond b 1 0) (ne_eqb d (suc n) ne)))

length-of_client-cons : (c : ℕ) (x : Numbered) (xs : List Numbered) → length (of_client c (x ∷ xs)) ≡ cond (eqb x.client c) 1 0 + length (of_client c xs)
length-of_client-cons c x xs = go (eqb x.client c)
  where
    go : (b : Bool) → length (cond b (x ∷ of_client c xs) (of_client c xs)) ≡ cond b 1 0 + length (of_client c xs)
    go true = omega arith
    go false = omega arith

pub length_by_client : (n : ℕ) (xs : List Numbered) → All (λ x. IsClient n x.client) xs → length xs ≡ total (λ c. length (of_client c xs)) n
length_by_client n [] h = sym (total_zero n)
length_by_client n (x ∷ xs) h =
    let ones : ℕ → ℕ = λ c. cond (eqb x.client c) 1 0 in
    let rest : ℕ → ℕ = λ c. length (of_client c xs) in
    let split : total (λ c. length (of_client c (x ∷ xs))) n ≡ total ones n + total rest n = total_same (λ c. length (of_client c (x ∷ xs))) (λ c. ones c + rest c) n (λ c _. length-of_client-cons c x xs) ∙ total-add ones rest n in
    let one : total ones n ≡ 1 = total_one x.client n (h 0 x (omega arith)) in
    let tail : length xs ≡ total rest n = length_by_client n xs (λ k d high. h (suc k) d (omega arith)) in
    omega (arith, split, one, tail)

-- no client has more than the quota
total_within : (f : ℕ → ℕ) (q n : ℕ) → ((c : ℕ) → IsClient n c → f c ≤ q) → total f n ≤ n * q
total_within f q zero h = omega arith
total_within f q (suc n) h = let last : f (suc n) ≤ q = h (suc n) (omega arith, omega arith) in omega (arith, last, total_within f q n (λ c i. let low = i.0 in let high = i.1 in h c (omega arith, omega arith)))

total_beside : (f : ℕ → ℕ) (q n d : ℕ) → ((c : ℕ) → IsClient n c → f c ≤ q) → IsClient n d → total f n + q ≤ f d + n * q
total_beside f q zero d h i = let low = i.0 in let high = i.1 in absurd (omega arith)
total_beside f q (suc n) d h i =
    let low = i.0 in let high = i.1 in
    let below : (c : ℕ) → IsClient n c → f c ≤ q = λ c j. let l = j.0 in let u = j.1 in h c (omega arith, omega arith) in
    let last : f (suc n) ≤ q = h (suc n) (omega arith, omega arith) in
    dite (ℕ_discrete d (suc n)) (λ e. let same : f d ≡ f (suc n) = ap f e in omega (arith, same, total_within f q n below)) (λ ne. omega (arith, last, total_beside f q n d below (low, omega arith)))

-- what is taken and queued is no longer than one client's list and the others' quota
pub length_beside : (n quota capacity : ℕ) (S : ℕ → List Numbered) (taken queue : List Numbered) (d : ℕ) → IsCoreState n quota capacity S taken queue → IsClient n d → length (taken ++ queue) ≤ length (S d) + (n - 1) * quota
length_beside n quota capacity S taken queue d h i =
    let low = i.0 in let high = i.1 in
    let f : ℕ → ℕ = λ c. length (S c) in
    let whole : length (taken ++ queue) ≡ total f n = length_by_client n (taken ++ queue) h.merge.clients ∙ total_same (λ c. length (of_client c (taken ++ queue))) f n (λ c j. ap length (h.merge.each c j)) in
    let b : total f n + quota ≤ f d + n * quota = total_beside f quota n d h.within_quota i in
    let m : n * quota ≡ (n - 1) * quota + quota = times n quota (omega arith) in
    omega (arith, whole, b, m)
  where
    times : (n q : ℕ) → 1 ≤ n → n * q ≡ (n - 1) * q + q
    times zero q h = absurd (omega arith)
    times (suc m) q h = let e : suc m - 1 ≡ m = omega arith in rw e (omega arith)

-- each client's taken items begin its list, and the queue has the rest
pub taken_and_queued : (n quota capacity : ℕ) (S : ℕ → List Numbered) (taken queue : List Numbered) (d : ℕ) → IsCoreState n quota capacity S taken queue → IsClient n d → of_client d taken ++ of_client d queue ≡ S d
taken_and_queued n quota capacity S taken queue d h i = sym (of_client-append d taken queue) ∙ h.merge.each d i

slice_get_seam : (xs : List Numbered) (x : Numbered) (ys : List Numbered) → slice_get (xs ++ x ∷ ys) (length xs) ≡ Some x
slice_get_seam [] x ys = refl
slice_get_seam (z ∷ zs) x ys = slice_get_seam zs x ys

All-seam : (P : Numbered → Type 0) (xs : List Numbered) (x : Numbered) (ys : List Numbered) → All P (xs ++ x ∷ ys) → P x
All-seam P [] x ys h = h 0 x (omega arith)
All-seam P (z ∷ zs) x ys h = All-seam P zs x ys (λ k d high. h (suc k) d (omega arith))

-- the front of the queue is of a client, and its number follows those of the client that were taken
pub next_number : (n quota capacity : ℕ) (S : ℕ → List Numbered) (taken : List Numbered) (x : Numbered) (queue : List Numbered) → IsCoreState n quota capacity S taken (x ∷ queue) → IsClient n x.client × (x.number ≡ length (of_client x.client taken) + 1)
next_number n quota capacity S taken x queue h =
    let c : ℕ = x.client in
    let ic : IsClient n c = All-seam (λ (y : Numbered). IsClient n y.client) taken x queue h.merge.clients in
    let here : of_client c (x ∷ queue) ≡ x ∷ of_client c queue = ap (λ b. cond b (x ∷ of_client c queue) (of_client c queue)) (eq-eqb c c refl) in
    let list : of_client c taken ++ x ∷ of_client c queue ≡ S c = ap (λ l. of_client c taken ++ l) (sym here) ∙ taken_and_queued n quota capacity S taken (x ∷ queue) c h ic in
    (ic, (h.numbers c ic (length (of_client c taken)) x (ap (λ l. slice_get l (length (of_client c taken))) (sym list) ∙ slice_get_seam (of_client c taken) x (of_client c queue))).1)
