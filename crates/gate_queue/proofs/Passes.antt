-- The steps of a part's pass, at the view that the part has.
use Rattle.std.proofs.Common.{◌≡◌, ◌≢◌, ℕ, zero, suc, ◌+◌, ◌-◌, ◌*◌, ◌<◌, ◌≤◌, add-one, true≢false, cond, eq-eqb, ne_eqb, List, [], ◌∷◌, ◌++◌, length, set, get_or, Option, Some, None, refl, sym, ap, ◌∙◌, subst, arith, length-append}
use Rattle.std.specs.Prelude.{slice_get, is_some, option_map, unwrap_or, IsSome, IfNone, MatchOption}
use Rattle.std.proofs.Math.ListN.{length-set, replicate, length-replicate}
use Rattle.std.proofs.lemmas.List.{append-nil}
use Rattle.std.proofs.lemmas.Option.{slice_get-get_or}
use mathlib.Core.List.{IsPrefix}
use mathlib.Core.Logic.{dite}
use native.Mathlib.Decide.{ℕ_discrete}
use Rattle.atomic_table.specs.Seated.{TableId}
use Rattle.crossbeam_queue.specs.Fifo.{Pushes, Pops, Forks, Merges, Learns, Held}
use Rattle.gate_model.specs.declared.submission.Numbered.{Numbered}
use Rattle.gate_model.specs.declared.submission.Body.{Body}
use Rattle.gate_model.specs.declared.record.Moment.{Moment}
use Rattle.gate_core.specs.Limits.{limits_of}
use Rattle.gate_core.specs.Merge.{numbered, IsClient, of_client}
use Rattle.gate_core.proofs.Merges.{begins}
use Rattle.gate_core.proofs.Counts.{length_beside, taken_and_queued}
use Rattle.gate_queue.specs.declared.rule.View.{View}
use Rattle.gate_queue.specs.declared.rule.EndedList.{EndedList}
use Rattle.gate_queue.specs.Gate.{gate_id}
use Rattle.gate_queue.specs.Client.{AllowsBeside}
use Rattle.gate_queue.specs.Taker.{ended_list, queued_of, list_of, total_queued, AllowsAfter, HasAll, taker_state}
use Rattle.gate_queue.specs.inner.Rule.{client, taker, blank, opener, IsRuled, TakesNext}
use Rattle.gate_queue.specs.inner.Passes.{IsClientPass, IsTakerPass, CountsEnded, total_counted, HasRest, limits_in}
use Rattle.gate_queue.proofs.Moves.{sends, sees_full, sees_rest, takes, takes_in, configures, makes_client}

-- a client with a count below the quota has fewer items queued than its quota
pub left_as : (v : View) (number count quota : ℕ) → IsClientPass v number count quota → count < quota → length v.queued < v.quota
left_as v number count quota p left = let counted = p.count_is in let q = p.quota_is in omega arith

pub sends_as : (ring index : ℕ) (v : View) (number count quota : ℕ) (b : Body) → IsClientPass v number count quota → ring ≡ v.capacity → count < quota
    → Pushes IsRuled ring index v (numbered number (count + 1) b) (λ w. w ≡ client v.clients v.quota v.capacity v.number (v.queued ++ numbered number (count + 1) b ∷ []))
sends_as ring index v number count quota b p room left =
    let is = p.view_is in
    let counted = p.count_is in
    let room_left = left_as v number count quota p left in
    let here : View = client v.clients v.quota v.capacity number v.queued in
    let P : View × ℕ × ℕ → Type 0 = λ y. Pushes IsRuled ring index y.0 (numbered number (y.2 + 1) b) (λ w. w ≡ client v.clients v.quota v.capacity y.1 (v.queued ++ numbered number (y.2 + 1) b ∷ [])) in
    let e : (here, number, length v.queued) ≡ (v, v.number, count) = λ i. (sym is i, ap (λ (u : View). u.number) (sym is) i, sym counted i) in
    subst P e (sends ring index v.clients v.quota v.capacity number v.queued b room room_left)

pub sees_full_as : (index : ℕ) (v : View) (number count quota : ℕ) → IsClientPass v number count quota → Learns IsRuled index v (AllowsBeside (limits_in v) v.number v.queued)
sees_full_as index v number count quota p =
    let is = p.view_is in
    let here : View = client v.clients v.quota v.capacity number v.queued in
    let P : View × ℕ → Type 0 = λ y. Learns IsRuled index y.0 (AllowsBeside (limits_in v) y.1 v.queued) in
    let e : (here, number) ≡ (v, v.number) = λ i. (sym is i, ap (λ (u : View). u.number) (sym is) i) in
    subst P e (sees_full index v.clients v.quota v.capacity number v.queued)

-- a queue is full only where this list and the others' quota could fill it
pub full_bound : (n quota capacity c : ℕ) (mine : List Numbered) → IsClient n c → Held capacity (AllowsBeside (limits_of n quota capacity) c mine) → capacity ≤ length mine + (n - 1) * quota
full_bound n quota capacity c mine ic h =
    let long : length h.0 ≡ capacity = h.1 in
    let f : AllowsBeside (limits_of n quota capacity) c mine h.0 = h.2 in
    let b = length_beside n quota capacity f.sent f.taken h.0 c f.conserved ic in
    let same : length (f.sent c) ≡ length mine = ap length f.own in
    omega (arith, b, same, length-append f.taken h.0)

pub held_as : (ring : ℕ) (v : View) (number count quota : ℕ) → IsClientPass v number count quota → ring ≡ v.capacity → Held ring (AllowsBeside (limits_in v) v.number v.queued)
    → Held v.capacity (AllowsBeside (limits_in v) number v.queued) × (v.capacity ≤ length v.queued + (v.clients - 1) * v.quota)
held_as ring v number count quota p room h =
    let is = p.view_is in
    let e : (ring, v.number) ≡ (v.capacity, number) = λ i. (room i, ap (λ (u : View). u.number) is i) in
    let held : Held v.capacity (AllowsBeside (limits_in v) number v.queued) = subst (λ (y : ℕ × ℕ). Held y.0 (AllowsBeside (limits_in v) y.1 v.queued)) e h in
    (held, full_bound v.clients v.quota v.capacity number v.queued p.is_client held)

pub sees_rest_as : (index : ℕ) (v : View) → IsTakerPass v → Learns IsRuled index v (AllowsAfter (limits_in v) v.taken v.ended)
sees_rest_as index v p = subst (λ (u : View). Learns IsRuled index u (AllowsAfter (limits_in v) v.taken v.ended)) (sym p) (sees_rest index v.clients v.quota v.capacity v.clients v.taken v.ended)

pub takes_as : (index : ℕ) (v : View) → IsTakerPass v → Pops IsRuled index v (TakesNext v)
takes_as index v p = subst (λ (u : View). Pops IsRuled index u (TakesNext u)) (sym p) (takes index v.clients v.quota v.capacity v.clients v.taken v.ended)

pub takes_in_as : (index : ℕ) (v : View) (other : ℕ) (w : View) (number count quota : ℕ) → IsTakerPass v → IsClientPass w number count quota
    → Merges IsRuled index v other w (taker v.clients v.quota v.capacity v.made v.taken (ended_list w.number w.queued ∷ v.ended)) blank
takes_in_as index v other w number count quota p q =
    subst (λ (y : View × View). Merges IsRuled index y.0 other y.1 (taker y.0.clients y.0.quota y.0.capacity y.0.made y.0.taken (ended_list y.1.number y.1.queued ∷ y.0.ended)) blank) (λ i. (sym p i, sym q.view_is i))
    (takes_in index v.clients v.quota v.capacity v.clients v.taken v.ended other w.clients w.quota w.capacity number w.queued)

-- ended clients' taken items begin their lists
pub begins_each : (v : View) (counts : List (Option ℕ)) → CountsEnded v counts → HasRest v → (c : ℕ) (s : List Numbered) → queued_of c v.ended ≡ Some s → IsPrefix (of_client c v.taken) s
begins_each v counts m h c s e =
    let f : AllowsAfter (limits_in v) v.taken v.ended h.0 = h.1 in
    (of_client c h.0, taken_and_queued v.clients v.quota v.capacity f.0 v.taken h.0 c f.1 (m.clients c (ap is_some e)) ∙ f.2 c s e)

no_length : (xs : List Numbered) → length xs ≡ 0 → xs ≡ []
no_length [] h = refl
no_length (x ∷ xs) h = absurd (omega arith)

-- what the taker learns as it takes an item or finds none
abbrev pub Popped : View → View → Option Numbered → Type 0
Popped v w r = MatchOption r ((w ≡ v) × Held 0 (AllowsAfter (limits_in v) v.taken v.ended)) (λ x. TakesNext v x w)

pub after_pop : (v w : View) (counts : List (Option ℕ)) (r : Option Numbered) → IsTakerPass v → CountsEnded v counts → HasRest v → Popped v w r → IsTakerPass w × CountsEnded w counts × HasRest w
after_pop v w counts None p m h t = subst (λ (u : View). IsTakerPass u × CountsEnded u counts × HasRest u) (sym t.0) (p, m, h)
after_pop v w counts (Some x) p m h t =
    let made : v.made ≡ v.clients = ap (λ (u : View). u.made) p in
    let is : w ≡ taker v.clients v.quota v.capacity v.clients (v.taken ++ x ∷ []) v.ended = t.0 ∙ ap (λ k. taker v.clients v.quota v.capacity k (v.taken ++ x ∷ []) v.ended) made in
    subst (λ (u : View). IsTakerPass u × CountsEnded u counts × HasRest u) (sym is) (refl, record { few = m.few; long = m.long; each = m.each; clients = m.clients }, t.3)

pub none_left : (v w : View) (counts : List (Option ℕ)) (r : Option Numbered) (ring : TableId) (cell : ℕ) (k : Option Moment) → CountsEnded v counts → Popped v w r
    → IfNone r (HasAll (taker_state (gate_id ring cell (limits_in v)) v.taken v.ended k))
none_left v w counts (Some x) ring cell k m t = tt
none_left v w counts None ring cell k m t =
    let held : Held 0 (AllowsAfter (limits_in v) v.taken v.ended) = t.1 in
    let f : AllowsAfter (limits_in v) v.taken v.ended [] = subst (AllowsAfter (limits_in v) v.taken v.ended) (no_length held.0 held.1) held.2 in record {
      empty = f;
      each = λ c s e. ap (of_client c) (sym (append-nil v.taken)) ∙ f.1.merge.each c (m.clients c (ap is_some e)) ∙ f.2 c s e;
    }

set_here : (xs : List (Option ℕ)) (k : ℕ) (b : Option ℕ) → k < length xs → slice_get (set xs k b) k ≡ Some b
set_here [] k b h = absurd (omega arith)
set_here (x ∷ xs) zero b h = refl
set_here (x ∷ xs) (suc k) b h = set_here xs k b (omega arith)

set_else : (xs : List (Option ℕ)) (i k : ℕ) (b : Option ℕ) → k ≢ i → slice_get (set xs i b) k ≡ slice_get xs k
set_else [] i k b n = refl
set_else (x ∷ xs) zero zero b n = absurd (n refl)
set_else (x ∷ xs) zero (suc k) b n = refl
set_else (x ∷ xs) (suc i) zero b n = refl
set_else (x ∷ xs) (suc i) (suc k) b n = set_else xs i k b (λ e. n (ap suc e))

-- the taker's pass absorbed a client's, and then looked at the queue
pub after_take_in : (v w m u : View) (counts : List (Option ℕ)) (number count quota : ℕ) → IsTakerPass v → CountsEnded v counts → IsClientPass w number count quota → w.clients ≡ v.clients
    → m ≡ taker v.clients v.quota v.capacity v.made v.taken (ended_list w.number w.queued ∷ v.ended) → u ≡ m → HasRest m
    → IsTakerPass u × CountsEnded u (set counts (number - 1) (Some count)) × HasRest u
after_take_in v w m u counts number count quota p k q limits absorbed looked rest =
    let made : v.made ≡ v.clients = ap (λ (x : View). x.made) p in
    let named : w.number ≡ number = ap (λ (x : View). x.number) q.view_is in
    let e : EndedList = ended_list number w.queued in
    let now : View = taker v.clients v.quota v.capacity v.clients v.taken (e ∷ v.ended) in
    let same : u ≡ now = looked ∙ absorbed ∙ (λ i. taker v.clients v.quota v.capacity (made i) v.taken (ended_list (named i) w.queued ∷ v.ended)) in
    let here : IsClient v.clients number = subst (λ k. IsClient k number) limits q.is_client in
    let low = here.0 in
    let high = here.1 in
    let counts' : CountsEnded now (set counts (number - 1) (Some count)) = record {
      few = k.few;
      long = length-set counts (number - 1) (Some count) ∙ k.long;
      each = λ i less. dite (ℕ_discrete number (i + 1))
          (λ hit. let at : number - 1 ≡ i = omega arith in let room : i < length counts = let l = k.long in omega arith in subst (λ j. slice_get (set counts j (Some count)) i ≡ Some (option_map length (queued_of (i + 1) (e ∷ v.ended)))) (sym at)
          (set_here counts i (Some count) room ∙ ap (λ j. Some (Some j)) q.count_is ∙ ap (λ b. Some (option_map length (cond b (Some w.queued) (queued_of (i + 1) v.ended)))) (sym (eq-eqb number (i + 1) hit))))
          (λ miss. let apart : i ≢ number - 1 = λ x. miss (omega arith) in set_else counts (number - 1) i (Some count) apart ∙ k.each i less ∙ ap (λ b. Some (option_map length (cond b (Some w.queued) (queued_of (i + 1) v.ended)))) (sym (ne_eqb number (i + 1) miss)));
      clients = λ c some. dite (ℕ_discrete number c) (λ hit. subst (IsClient v.clients) hit here) (λ miss. k.clients c (subst IsSome (ap (λ b. cond b (Some w.queued) (queued_of c v.ended)) (ne_eqb number c miss)) some));
    } in
    (subst IsTakerPass (sym same) refl, subst (λ (x : View). CountsEnded x (set counts (number - 1) (Some count))) (sym same) counts', subst HasRest (sym looked) rest)

pub configures_as : (index n quota capacity : ℕ) (v : View) → v ≡ opener → Forks IsRuled index v (taker n quota capacity 0 [] []) blank
configures_as index n quota capacity v p = subst (λ (u : View). Forks IsRuled index u (taker n quota capacity 0 [] []) blank) (sym p) (configures index n quota capacity)

pub makes_client_as : (index n quota capacity made : ℕ) (v : View) → v ≡ taker n quota capacity made [] [] → made < n
    → Forks IsRuled index v (taker v.clients v.quota v.capacity (v.made + 1) v.taken v.ended) (client v.clients v.quota v.capacity (v.made + 1) [])
makes_client_as index n quota capacity made v p more =
    subst (λ (u : View). Forks IsRuled index u (taker u.clients u.quota u.capacity (u.made + 1) u.taken u.ended) (client u.clients u.quota u.capacity (u.made + 1) [])) (sym p) (makes_client index n quota capacity made [] [] more)

abbrev pub no_mark : Option ℕ
no_mark = None

-- a new taker: nothing was taken, and nobody was taken in
pub new_taker : (n quota capacity : ℕ) (v : View) (counts : List (Option ℕ)) → n ≤ 64 → v ≡ taker n quota capacity n [] [] → counts ≡ replicate n no_mark → IsTakerPass v × CountsEnded v counts × HasRest v
new_taker n quota capacity v counts few is filled =
    subst (λ (y : View × List (Option ℕ)). IsTakerPass y.0 × CountsEnded y.0 y.1 × HasRest y.0) (λ i. (sym is i, sym filled i)) (
      refl,
      record { few = few; long = length-replicate n no_mark; each = λ k less. replicated n k less; clients = λ c some. absurd (true≢false (sym some)) },
      ([], ((λ _. []), begins n quota capacity, λ c s e. absurd (cc))),
    )
  where
    replicated : (m k : ℕ) → k < m → slice_get (replicate m no_mark) k ≡ Some no_mark
    replicated zero k h = absurd (omega arith)
    replicated (suc m) zero h = refl
    replicated (suc m) (suc k) h = replicated m k (omega arith)

-- the counts add up to what was queued
pub total_is : (v : View) (counts : List (Option ℕ)) → CountsEnded v counts → (k : ℕ) → k ≤ v.clients → total_counted counts k ≡ total_queued v.ended k
total_is v counts h zero less = refl
total_is v counts h (suc k) less =
    let none : Option ℕ = None in
    let room : k < v.clients = omega arith in
    let long : k < length counts = let l = h.long in omega arith in
    let same : Some (get_or counts k none) ≡ Some (option_map length (queued_of (k + 1) v.ended)) = sym (slice_get-get_or counts k none long) ∙ h.each k room in
    let is : get_or counts k none ≡ option_map length (queued_of (k + 1) v.ended) = cc in
    let here : unwrap_or (get_or counts k none) 0 ≡ length (list_of v.ended (suc k)) = ap (λ o. unwrap_or o 0) is ∙ go (queued_of (k + 1) v.ended) ∙ ap (λ j. length (list_of v.ended j)) (add-one k) in
    let before : total_counted counts k ≡ total_queued v.ended k = total_is v counts h k (omega arith) in (λ i. before i + here i)
  where
    go : (o : Option (List Numbered)) → unwrap_or (option_map length o) 0 ≡ length (unwrap_or o [])
    go None = refl
    go (Some queued) = refl
