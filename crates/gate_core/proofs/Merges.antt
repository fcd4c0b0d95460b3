-- What keeps lists merged: nothing was sent, an item is queued, an item is taken.
use Rattle.std.proofs.Common.{◌≡◌, ◌≢◌, ◌⊎◌, ℕ, zero, suc, ◌+◌, ◌<◌, ◌≤◌, List, [], ◌∷◌, ◌++◌, length, Some, cond, eqb, eq-eqb, ne_eqb, refl, sym, ap, ◌∙◌, subst, inl, inr, ⊎_elim, arith, append_assoc, length-append}
use Rattle.std.specs.Prelude.{slice_get, All}
use Rattle.std.proofs.lemmas.List.{append-nil}
use Rattle.std.proofs.lemmas.List.Elements.{filter-append, All-push}
use mathlib.Core.Logic.{dite}
use native.Mathlib.Decide.{ℕ_discrete}
use Rattle.gate_model.specs.declared.submission.Numbered.{Numbered}
use Rattle.gate_model.specs.declared.submission.Body.{Body}
use Rattle.gate_core.specs.Merge.{numbered, IsClient, IsNumbered, of_client, IsMerge, IsCoreState}

-- the lists, with s for client c's
abbrev pub put : (ℕ → List Numbered) → ℕ → List Numbered → ℕ → List Numbered
put sent c s d = cond (eqb d c) s (sent d)

pub put_same : (S : ℕ → List Numbered) (c : ℕ) (s : List Numbered) → put S c s c ≡ s
put_same S c s = ap (λ b. cond b s (S c)) (eq-eqb c c refl)

pub put_other : (S : ℕ → List Numbered) (c : ℕ) (s : List Numbered) (d : ℕ) → d ≢ c → put S c s d ≡ S d
put_other S c s d ne = ap (λ b. cond b s (S d)) (ne_eqb d c ne)

-- what holds of the new list and of each other client's holds of all
pub put_each : (P : ℕ → List Numbered → Type 0) (S : ℕ → List Numbered) (c : ℕ) (s : List Numbered) (d : ℕ) → (d ≡ c → P c s) → (d ≢ c → P d (S d)) → P d (put S c s d)
put_each P S c s d same other =
    dite (ℕ_discrete d c) (λ e. subst (λ k. P k (put S c s k)) (sym e) (subst (P c) (sym (put_same S c s)) (same e)))
    (λ ne. subst (P d) (sym (put_other S c s d ne)) (other ne))

pub of_client-append : (c : ℕ) (xs ys : List Numbered) → of_client c (xs ++ ys) ≡ of_client c xs ++ of_client c ys
of_client-append c xs ys = filter-append (λ (x : Numbered). eqb x.client c) xs ys

pub of_client_mine : (c k : ℕ) (b : Body) → of_client c (numbered c k b ∷ []) ≡ numbered c k b ∷ []
of_client_mine c k b = ap (λ t. cond t (numbered c k b ∷ []) []) (eq-eqb c c refl)

pub of_client_other : (c : ℕ) (x : Numbered) → x.client ≢ c → of_client c (x ∷ []) ≡ []
of_client_other c x ne = ap (λ t. cond t (x ∷ []) []) (ne_eqb x.client c ne)

pub slice_get_snoc : (xs : List Numbered) (y : Numbered) (k : ℕ) (x : Numbered) → slice_get (xs ++ y ∷ []) k ≡ Some x → (slice_get xs k ≡ Some x) ⊎ ((k ≡ length xs) × (y ≡ x))
slice_get_snoc [] y zero x e = inr (refl, cc)
slice_get_snoc [] y (suc k) x e = absurd (cc)
slice_get_snoc (z ∷ zs) y zero x e = inl e
slice_get_snoc (z ∷ zs) y (suc k) x e = ⊎_elim (λ h. inl h) (λ h. inr (ap suc h.0, h.1)) (slice_get_snoc zs y k x e)

pub IsNumbered-snoc : (c : ℕ) (xs : List Numbered) (b : Body) → IsNumbered c xs → IsNumbered c (xs ++ numbered c (length xs + 1) b ∷ [])
IsNumbered-snoc c xs b h k x e =
    ⊎_elim (λ old. h k x old)
    (λ (new : (k ≡ length xs) × (numbered c (length xs + 1) b ≡ x)). (ap (λ (y : Numbered). y.client) (sym new.1), ap (λ (y : Numbered). y.number) (sym new.1) ∙ ap (λ n. n + 1) (sym new.0)))
    (slice_get_snoc xs (numbered c (length xs + 1) b) k x e)

pub begins : (n quota capacity : ℕ) → IsCoreState n quota capacity (λ _. []) [] []
begins n quota capacity = record {
  numbers = λ c _ k x e. absurd (cc);
  within_quota = λ c _. omega arith;
  within_capacity = omega arith;
  merge = record { clients = λ k d high. absurd (omega arith); each = λ c _. refl };
}

-- client c's next item joins the queue
pub queues : (n quota capacity : ℕ) (S : ℕ → List Numbered) (taken queue : List Numbered) (c : ℕ) (b : Body) → IsCoreState n quota capacity S taken queue → IsClient n c → length (S c) < quota → length queue < capacity
    → IsCoreState n quota capacity (put S c (S c ++ numbered c (length (S c) + 1) b ∷ [])) taken (queue ++ numbered c (length (S c) + 1) b ∷ [])
queues n quota capacity S taken queue c b h ic quota_left room =
    let x : Numbered = numbered c (length (S c) + 1) b in
    let s : List Numbered = S c ++ x ∷ [] in
    let whole : (taken ++ queue) ++ x ∷ [] ≡ taken ++ (queue ++ x ∷ []) = append_assoc taken queue (x ∷ []) in record {
      numbers = λ d id. put_each (λ e l. IsNumbered e l) S c s d (λ _. IsNumbered-snoc c (S c) b (h.numbers c ic)) (λ _. h.numbers d id);
      within_quota = λ d id. put_each (λ e l. length l ≤ quota) S c s d (λ _. omega (arith, length-append (S c) (x ∷ []))) (λ _. h.within_quota d id);
      within_capacity = omega (arith, length-append queue (x ∷ []));
      merge = record {
        clients = subst (λ l. All (λ (y : Numbered). IsClient n y.client) l) whole (All-push (λ (y : Numbered). IsClient n y.client) (taken ++ queue) x h.merge.clients ic);
        each = λ d id. ap (of_client d) (sym whole) ∙ of_client-append d (taken ++ queue) (x ∷ []) ∙ ap (λ l. l ++ of_client d (x ∷ [])) (h.merge.each d id)
            ∙ put_each (λ e l. S e ++ of_client e (x ∷ []) ≡ l) S c s d (λ _. ap (λ l. S c ++ l) (of_client_mine c (length (S c) + 1) b))
            (λ ne. ap (λ l. S d ++ l) (of_client_other d x (λ e. ne (sym e))) ∙ append-nil (S d));
      };
    }

-- the front of the queue is taken
pub takes : (n quota capacity : ℕ) (S : ℕ → List Numbered) (taken : List Numbered) (x : Numbered) (queue : List Numbered) → IsCoreState n quota capacity S taken (x ∷ queue) → IsCoreState n quota capacity S (taken ++ x ∷ []) queue
takes n quota capacity S taken x queue h = record {
  numbers = h.numbers;
  within_quota = h.within_quota;
  within_capacity = let w = h.within_capacity in omega arith;
  merge = subst (λ l. IsMerge n S l) (sym (append_assoc taken (x ∷ []) queue)) h.merge;
}

-- the same lists, by another function
pub same_sent : (n quota capacity : ℕ) (S T : ℕ → List Numbered) (taken queue : List Numbered) → ((c : ℕ) → IsClient n c → S c ≡ T c) → IsCoreState n quota capacity S taken queue → IsCoreState n quota capacity T taken queue
same_sent n quota capacity S T taken queue same h = record {
  numbers = λ c i. subst (λ l. IsNumbered c l) (same c i) (h.numbers c i);
  within_quota = λ c i. subst (λ (l : List Numbered). length l ≤ quota) (same c i) (h.within_quota c i);
  within_capacity = h.within_capacity;
  merge = record { clients = h.merge.clients; each = λ c i. h.merge.each c i ∙ same c i };
}
