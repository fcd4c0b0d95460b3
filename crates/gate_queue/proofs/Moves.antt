-- Each step keeps the rule of the queue.
use Rattle.std.proofs.Common.{◌≡◌, ◌≢◌, ◌⊎◌, ℕ, zero, suc, ◌+◌, ◌<◌, ◌≤◌, List, [], ◌∷◌, ◌++◌, length, set, Some, true, false, true≢false, cond, eqb, eq-eqb, ne_eqb, refl, sym, ap, ◌∙◌, subst, inl, inr, ⊎_elim, arith}
use Rattle.std.specs.Prelude.{All}
use mathlib.Core.Option.{some, some-ne-none, some-injective}
use mathlib.Core.Logic.{dite}
use native.Mathlib.Decide.{ℕ_discrete, dec_le}
use lib.ListN.{get_elem?}
use Rattle.crossbeam_queue.specs.Fifo.{Pushes, Pops, Forks, Merges, Learns}
use Rattle.crossbeam_queue.proofs.Lists.{at_set}
use Rattle.gate_model.specs.declared.submission.Numbered.{Numbered}
use Rattle.gate_model.specs.declared.submission.Body.{Body}
use Rattle.gate_core.specs.Limits.{limits_of}
use Rattle.gate_core.specs.Merge.{numbered, IsClient, IsCoreState}
use Rattle.gate_core.proofs.Merges as merges
use Rattle.gate_core.proofs.Merges.{put, put_same, put_other}
use Rattle.gate_core.proofs.Counts.{next_number}
use Rattle.gate_queue.specs.declared.rule.EndedList.{EndedList}
use Rattle.gate_queue.specs.declared.rule.View.{View}
use Rattle.gate_queue.specs.Client.{AllowsBeside}
use Rattle.gate_queue.specs.Taker.{ended_list, queued_of, AllowsAfter}
use Rattle.gate_queue.specs.inner.Rule.{client, taker, blank, opener, FitsClient, FitsTaker, IsRuled, TakesNext}

off : false ≡ true → ⊥
off e = true≢false (sym e)

-- what the rule says of one view
abbrev Fits : ℕ → ℕ → ℕ → (ℕ → List Numbered) → (ℕ → ℕ) → List Numbered → ℕ → ℕ → View → Type 0
Fits n quota capacity sent owner taken reader index v = (v.sends ≡ true → FitsClient n quota capacity sent owner index v) × (v.takes ≡ true → FitsTaker n quota capacity sent owner taken reader index v)

all_set : (F : ℕ → View → Type 0) (views : List View) (index : ℕ) (w : View) → F index w → ((j : ℕ) (u : View) → j ≢ index → get_elem? views j ≡ some u → F j u) → (j : ℕ) (u : View) → get_elem? (set views index w) j ≡ some u → F j u
all_set F views index w mine others j u e =
    ⊎_elim (λ (x : (j ≡ index) × (w ≡ u)). subst (λ (y : ℕ × View). F y.0 y.1) (λ i. (sym x.0 i, x.1 i)) mine) (λ (x : (j ≢ index) × (get_elem? views j ≡ some u)). others j u x.0 x.1) (at_set views index j w u e)

snoc_at : (l : List View) (a b : View) (j : ℕ) → get_elem? (l ++ a ∷ []) j ≡ some b → (get_elem? l j ≡ some b) ⊎ ((j ≡ length l) × (a ≡ b))
snoc_at [] a b zero e = inr (refl, some-injective a b e)
snoc_at [] a b (suc j) e = absurd (some-ne-none b (sym e))
snoc_at (x ∷ xs) a b zero e = inl e
snoc_at (x ∷ xs) a b (suc j) e = ⊎_elim (λ h. inl h) (λ h. inr (ap suc h.0, h.1)) (snoc_at xs a b j e)

-- the indexes, with this one for client c
moved : (ℕ → ℕ) → ℕ → ℕ → ℕ → ℕ
moved owner c index d = cond (eqb d c) index (owner d)

moved_same : (owner : ℕ → ℕ) (c index : ℕ) → moved owner c index c ≡ index
unfolding moved
moved_same owner c index = ap (λ b. cond b index (owner c)) (eq-eqb c c refl)

moved_other : (owner : ℕ → ℕ) (c index d : ℕ) → d ≢ c → moved owner c index d ≡ owner d
unfolding moved
moved_other owner c index d ne = ap (λ b. cond b index (owner d)) (ne_eqb d c ne)

core_as : (n quota capacity n' quota' capacity' : ℕ) (S : ℕ → List Numbered) (t t' xs : List Numbered) → n' ≡ n → quota' ≡ quota → capacity' ≡ capacity → t' ≡ t → IsCoreState n quota capacity S t xs → IsCoreState n' quota' capacity' S t' xs
core_as n quota capacity n' quota' capacity' S t t' xs a b c d h = subst (λ (y : ℕ × ℕ × ℕ × List Numbered). IsCoreState y.0 y.1 y.2 S y.3 xs) (λ i. (sym a i, sym b i, sym c i, sym d i)) h

queues_as : (n quota capacity : ℕ) (S : ℕ → List Numbered) (taken queue : List Numbered) (c : ℕ) (s : List Numbered) (b : Body) → IsCoreState n quota capacity S taken queue → IsClient n c → S c ≡ s → length s < quota → length queue < capacity
    → IsCoreState n quota capacity (put S c (s ++ numbered c (length s + 1) b ∷ [])) taken (queue ++ numbered c (length s + 1) b ∷ [])
queues_as n quota capacity S taken queue c s b h ic is left room =
    subst (λ l. IsCoreState n quota capacity (put S c (l ++ numbered c (length l + 1) b ∷ [])) taken (queue ++ numbered c (length l + 1) b ∷ [])) is
    (merges.queues n quota capacity S taken queue c b h ic (subst (λ (l : List Numbered). length l < quota) (sym is) left) room)

pub begins : IsRuled [] (opener ∷ [])
begins = record {
  n = 0;
  quota = 0;
  capacity = 0;
  sent = λ _. [];
  owner = λ _. 0;
  taken = [];
  reader = 0;
  core = merges.begins 0 0 0;
  of_clients = λ j u e s. (one j u e).0 s;
  of_taker = λ j u e t. (one j u e).1 t;
}
  where
    one : (j : ℕ) (u : View) → get_elem? (opener ∷ []) j ≡ some u → Fits 0 0 0 (λ _. []) (λ _. 0) [] 0 j u
    one zero u e = subst (Fits 0 0 0 (λ _. []) (λ _. 0) [] 0 0) (some-injective opener u e) (
      (λ s. absurd (off s)),
      (λ _. record { limits = record { clients_is = refl; quota_is = refl; capacity_is = refl }; index_is = refl; taken_is = refl; unmade = λ c _. (refl, refl); ended = λ c s x. absurd (cc) }),
    )
    one (suc j) u e = absurd (some-ne-none u (sym e))

-- a client adds an item
pub sends : (ring index n quota capacity c : ℕ) (s : List Numbered) (b : Body) → ring ≡ capacity → length s < quota
    → Pushes IsRuled ring index (client n quota capacity c s) (numbered c (length s + 1) b) (λ w. w ≡ client n quota capacity c (s ++ numbered c (length s + 1) b ∷ []))
sends ring index n quota capacity c s b same left items views room h at =
    let x : Numbered = numbered c (length s + 1) b in
    let l : List Numbered = s ++ x ∷ [] in
    let w : View = client n quota capacity c l in
    let mine = h.of_clients index (client n quota capacity c s) at refl in
    let S : ℕ → List Numbered = put h.sent c l in
    let others : (j : ℕ) (u : View) → j ≢ index → get_elem? views j ≡ some u → Fits h.n h.quota h.capacity S h.owner h.taken h.reader j u = λ j u apart e. (
      (λ sends.
          let f = h.of_clients j u e sends in
          let ne : u.number ≢ c = λ k. apart (sym f.owns ∙ ap h.owner k ∙ mine.owns) in
          record { limits = f.limits; number = f.number; owns = f.owns; queued_is = put_other h.sent c l u.number ne ∙ f.queued_is }),
      (λ takes.
          let f = h.of_taker j u e takes in
          let ne : (d : ℕ) → h.owner d ≡ h.reader → d ≢ c = λ d o k. apart (f.index_is ∙ sym o ∙ ap h.owner k ∙ mine.owns) in record {
            limits = f.limits;
            index_is = f.index_is;
            taken_is = f.taken_is;
            unmade = λ d more. let o = f.unmade d more in (o.0, put_other h.sent c l d (ne d o.0) ∙ o.1);
            ended = λ d t x. let o = f.ended d t x in (o.0, o.1, put_other h.sent c l d (ne d o.1) ∙ o.2);
          }),
    ) in
    let fits = all_set (Fits h.n h.quota h.capacity S h.owner h.taken h.reader) views index w ((λ _. record { limits = record { clients_is = mine.limits.clients_is; quota_is = mine.limits.quota_is; capacity_is = mine.limits.capacity_is }; number = mine.number; owns = mine.owns; queued_is = put_same h.sent c l }), (λ t. absurd (off t))) others in (
      w,
      record {
        n = h.n;
        quota = h.quota;
        capacity = h.capacity;
        sent = S;
        owner = h.owner;
        taken = h.taken;
        reader = h.reader;
        core = let q = mine.limits.quota_is in let k = mine.limits.capacity_is in queues_as h.n h.quota h.capacity h.sent h.taken items c s b h.core mine.number mine.queued_is (omega arith) (omega arith);
        of_clients = λ j u e. (fits j u e).0;
        of_taker = λ j u e. (fits j u e).1;
      },
      refl,
    )

-- a client finds the queue full
pub sees_full : (index n quota capacity c : ℕ) (s : List Numbered) → Learns IsRuled index (client n quota capacity c s) (AllowsBeside (limits_of n quota capacity) c s)
sees_full index n quota capacity c s items views h at =
    let mine = h.of_clients index (client n quota capacity c s) at refl in
    let m = mine.limits in record {
      sent = h.sent;
      taken = h.taken;
      conserved = core_as h.n h.quota h.capacity n quota capacity h.sent h.taken h.taken items m.clients_is m.quota_is m.capacity_is refl h.core;
      own = mine.queued_is;
    }

-- the taker finds the queue empty, or learns what it may hold
pub sees_rest : (index n quota capacity made : ℕ) (taken : List Numbered) (ended : List EndedList) → Learns IsRuled index (taker n quota capacity made taken ended) (AllowsAfter (limits_of n quota capacity) taken ended)
sees_rest index n quota capacity made taken ended items views h at =
    let mine = h.of_taker index (taker n quota capacity made taken ended) at refl in
    let m = mine.limits in (h.sent, core_as h.n h.quota h.capacity n quota capacity h.sent h.taken taken items m.clients_is m.quota_is m.capacity_is mine.taken_is h.core, λ c s e. (mine.ended c s e).2)

-- the taker takes the oldest item
pub takes : (index n quota capacity made : ℕ) (taken : List Numbered) (ended : List EndedList) → Pops IsRuled index (taker n quota capacity made taken ended) (TakesNext (taker n quota capacity made taken ended))
takes index n quota capacity made taken ended x items views h at =
    let mine = h.of_taker index (taker n quota capacity made taken ended) at refl in
    let m = mine.limits in
    let t : List Numbered = taken ++ x ∷ [] in
    let w : View = taker n quota capacity made t ended in
    let core : IsCoreState n quota capacity h.sent taken (x ∷ items) = core_as h.n h.quota h.capacity n quota capacity h.sent h.taken taken (x ∷ items) m.clients_is m.quota_is m.capacity_is mine.taken_is h.core in
    let next = next_number n quota capacity h.sent taken x items core in
    let after : IsCoreState n quota capacity h.sent t items = merges.takes n quota capacity h.sent taken x items core in
    let same : t ≡ h.taken ++ x ∷ [] = ap (λ l. l ++ x ∷ []) mine.taken_is in
    let others : (j : ℕ) (u : View) → j ≢ index → get_elem? views j ≡ some u → Fits h.n h.quota h.capacity h.sent h.owner (h.taken ++ x ∷ []) h.reader j u = λ j u apart e. ((λ sends. h.of_clients j u e sends), (λ takes. absurd (apart ((h.of_taker j u e takes).index_is ∙ sym mine.index_is)))) in
    let fits = all_set (Fits h.n h.quota h.capacity h.sent h.owner (h.taken ++ x ∷ []) h.reader) views index w ((λ s. absurd (off s)), (λ _. record { limits = record { clients_is = m.clients_is; quota_is = m.quota_is; capacity_is = m.capacity_is }; index_is = mine.index_is; taken_is = same; unmade = mine.unmade; ended = mine.ended })) others in (
      w,
      record {
        n = h.n;
        quota = h.quota;
        capacity = h.capacity;
        sent = h.sent;
        owner = h.owner;
        taken = h.taken ++ x ∷ [];
        reader = h.reader;
        core = merges.takes h.n h.quota h.capacity h.sent h.taken x items h.core;
        of_clients = λ j u e. (fits j u e).0;
        of_taker = λ j u e. (fits j u e).1;
      },
      (refl, next.0, next.1, (items, (h.sent, after, λ c s e. (mine.ended c s e).2))),
    )

no_items : (xs : List Numbered) → All (λ x. IsClient 0 x.client) xs → xs ≡ []
no_items [] h = refl
no_items (x ∷ xs) h = let i = h 0 x (omega arith) in let low = i.0 in let high = i.1 in absurd (omega arith)

-- the first pass learns the limits
pub configures : (index n quota capacity : ℕ) → Forks IsRuled index opener (taker n quota capacity 0 [] []) blank
configures index n quota capacity items views h at =
    let mine = h.of_taker index opener at refl in
    let none : h.n ≡ 0 = sym mine.limits.clients_is in
    let nobody : (c : ℕ) → IsClient h.n c → ⊥ = λ c i. let low = i.0 in let high = i.1 in omega arith in
    let empty : items ≡ [] = no_items items (subst (λ (l : List Numbered). All (λ x. IsClient 0 x.client) (l ++ items)) (sym mine.taken_is) (subst (λ (m : ℕ). All (λ x. IsClient m x.client) (h.taken ++ items)) none h.core.merge.clients)) in
    let w : View = taker n quota capacity 0 [] [] in
    let F : ℕ → View → Type 0 = Fits n quota capacity (λ _. []) (λ _. index) [] index in
    let others : (j : ℕ) (u : View) → j ≢ index → get_elem? views j ≡ some u → F j u = λ j u apart e. ((λ sends. absurd (nobody u.number (h.of_clients j u e sends).number)), (λ takes. absurd (apart ((h.of_taker j u e takes).index_is ∙ sym mine.index_is)))) in
    let fits = all_set F views index w ((λ s. absurd (off s)), (λ _. record { limits = record { clients_is = refl; quota_is = refl; capacity_is = refl }; index_is = refl; taken_is = refl; unmade = λ c _. (refl, refl); ended = λ c s e. absurd (cc) })) others in
    let all : (j : ℕ) (u : View) → get_elem? (set views index w ++ blank ∷ []) j ≡ some u → F j u = λ j u e. ⊎_elim (λ (x : get_elem? (set views index w) j ≡ some u). fits j u x)
    (λ (x : (j ≡ length (set views index w)) × (blank ≡ u)). subst (λ (y : View). F j y) x.1 ((λ s. absurd (off s)), (λ t. absurd (off t)))) (snoc_at (set views index w) blank u j e) in record {
      n = n;
      quota = quota;
      capacity = capacity;
      sent = λ _. [];
      owner = λ _. index;
      taken = [];
      reader = index;
      core = subst (λ (l : List Numbered). IsCoreState n quota capacity (λ _. []) [] l) (sym empty) (merges.begins n quota capacity);
      of_clients = λ j u e. (all j u e).0;
      of_taker = λ j u e. (all j u e).1;
    }

-- the taker's pass makes the next client's
pub makes_client : (index n quota capacity made : ℕ) (taken : List Numbered) (ended : List EndedList) → made < n
    → Forks IsRuled index (taker n quota capacity made taken ended) (taker n quota capacity (made + 1) taken ended) (client n quota capacity (made + 1) [])
makes_client index n quota capacity made taken ended more items views h at =
    let mine = h.of_taker index (taker n quota capacity made taken ended) at refl in
    let m = mine.limits in
    let c : ℕ = made + 1 in
    let w : View = taker n quota capacity c taken ended in
    let new : View = client n quota capacity c [] in
    let vs : List View = set views index w in
    let own : ℕ → ℕ = moved h.owner c (length vs) in
    let next : (h.owner c ≡ h.reader) × (h.sent c ≡ []) = mine.unmade c (omega arith) in
    let F : ℕ → View → Type 0 = Fits h.n h.quota h.capacity h.sent own h.taken h.reader in
    let others : (j : ℕ) (u : View) → j ≢ index → get_elem? views j ≡ some u → F j u = λ j u apart e. (
      (λ sends.
          let f = h.of_clients j u e sends in
          let ne : u.number ≢ c = λ k. apart (sym f.owns ∙ ap h.owner k ∙ next.0 ∙ sym mine.index_is) in
          record { limits = f.limits; number = f.number; owns = moved_other h.owner c (length vs) u.number ne ∙ f.owns; queued_is = f.queued_is }),
      (λ takes. absurd (apart ((h.of_taker j u e takes).index_is ∙ sym mine.index_is))),
    ) in
    let keeps : (d : ℕ) → d ≢ c → h.owner d ≡ h.reader → own d ≡ h.reader = λ d ne o. moved_other h.owner c (length vs) d ne ∙ o in
    let fits = all_set F views index w (
      (λ s. absurd (off s)),
      (λ _. record {
        limits = record { clients_is = m.clients_is; quota_is = m.quota_is; capacity_is = m.capacity_is };
        index_is = mine.index_is;
        taken_is = mine.taken_is;
        unmade = λ d above. let o = mine.unmade d (omega arith) in let ne : d ≢ c = λ k. omega arith in (keeps d ne o.0, o.1);
        ended = λ d s e. let o = mine.ended d s e in let low = o.0 in let ne : d ≢ c = λ k. omega arith in (omega arith, keeps d ne o.1, o.2);
      }),
    ) others in
    let is_client : IsClient h.n c = let k = m.clients_is in (omega arith, omega arith) in
    let fresh : F (length vs) new = ((λ _. record { limits = record { clients_is = m.clients_is; quota_is = m.quota_is; capacity_is = m.capacity_is }; number = is_client; owns = moved_same h.owner c (length vs); queued_is = next.1 }), (λ t. absurd (off t))) in
    let all : (j : ℕ) (u : View) → get_elem? (vs ++ new ∷ []) j ≡ some u → F j u = λ j u e. ⊎_elim (λ (x : get_elem? vs j ≡ some u). fits j u x)
    (λ (x : (j ≡ length vs) × (new ≡ u)). subst (λ (y : ℕ × View). F y.0 y.1) (λ i. (sym x.0 i, x.1 i)) fresh) (snoc_at vs new u j e) in record {
      n = h.n;
      quota = h.quota;
      capacity = h.capacity;
      sent = h.sent;
      owner = own;
      taken = h.taken;
      reader = h.reader;
      core = h.core;
      of_clients = λ j u e. (all j u e).0;
      of_taker = λ j u e. (all j u e).1;
    }

queued_of_cons : (c : ℕ) (e : EndedList) (es : List EndedList) (s : List Numbered) → queued_of c (e ∷ es) ≡ Some s → ((e.client ≡ c) × (e.queued ≡ s)) ⊎ (queued_of c es ≡ Some s)
queued_of_cons c e es s h =
    dite (ℕ_discrete e.client c)
    (λ same. inl (same, let k : Some e.queued ≡ Some s = sym (ap (λ b. cond b (Some e.queued) (queued_of c es)) (eq-eqb e.client c same)) ∙ h in cc))
    (λ ne. inr (sym (ap (λ b. cond b (Some e.queued) (queued_of c es)) (ne_eqb e.client c ne)) ∙ h))

-- the taker's pass takes in an ended client's
pub takes_in : (index n quota capacity made : ℕ) (taken : List Numbered) (ended : List EndedList) (other n' quota' capacity' c : ℕ) (s : List Numbered)
    → Merges IsRuled index (taker n quota capacity made taken ended) other (client n' quota' capacity' c s) (taker n quota capacity made taken (ended_list c s ∷ ended)) blank
takes_in index n quota capacity made taken ended other n' quota' capacity' c s items views h at two there =
    let mine = h.of_taker index (taker n quota capacity made taken ended) at refl in
    let m = mine.limits in
    let w : View = taker n quota capacity made taken (ended_list c s ∷ ended) in
    let was : get_elem? views other ≡ some (client n' quota' capacity' c s) = ⊎_elim (λ x. absurd (two x.0)) (λ x. x.1) (at_set views index other w (client n' quota' capacity' c s) there) in
    let theirs = h.of_clients other (client n' quota' capacity' c s) was refl in
    let apart_from : h.owner c ≢ h.reader = λ o. two (sym theirs.owns ∙ o ∙ sym mine.index_is) in
    let own : ℕ → ℕ = moved h.owner c h.reader in
    let F : ℕ → View → Type 0 = Fits h.n h.quota h.capacity h.sent own h.taken h.reader in
    let Now : ℕ → View → Type 0 = λ j u. j ≢ other → F j u in
    let keeps : (d : ℕ) → h.owner d ≡ h.reader → own d ≡ h.reader = λ d o. moved_other h.owner c h.reader d (λ k. apart_from (ap h.owner (sym k) ∙ o)) ∙ o in
    let old : (j : ℕ) (u : View) → j ≢ index → get_elem? views j ≡ some u → Now j u = λ j u apart e gone. (
      (λ sends.
          let f = h.of_clients j u e sends in
          let ne : u.number ≢ c = λ k. gone (sym f.owns ∙ ap h.owner k ∙ theirs.owns) in
          record { limits = f.limits; number = f.number; owns = moved_other h.owner c h.reader u.number ne ∙ f.owns; queued_is = f.queued_is }),
      (λ takes. absurd (apart ((h.of_taker j u e takes).index_is ∙ sym mine.index_is))),
    ) in
    let made_c : c ≤ made = dite (dec_le c made) (λ l. l) (λ l. absurd (apart_from (mine.unmade c (omega arith)).0)) in
    let now = all_set Now views index w (λ _. (
      (λ x. absurd (off x)),
      (λ _. record {
        limits = record { clients_is = m.clients_is; quota_is = m.quota_is; capacity_is = m.capacity_is };
        index_is = mine.index_is;
        taken_is = mine.taken_is;
        unmade = λ d above. let o = mine.unmade d above in (keeps d o.0, o.1);
        ended = λ d t e. ⊎_elim
            (λ (x : (c ≡ d) × (s ≡ t)). (subst (λ (k : ℕ). k ≤ made) x.0 made_c, ap own (sym x.0) ∙ moved_same h.owner c h.reader, ap h.sent (sym x.0) ∙ theirs.queued_is ∙ x.1))
            (λ (x : queued_of d ended ≡ Some t). let o = mine.ended d t x in (o.0, keeps d o.1, o.2))
            (queued_of_cons d (ended_list c s) ended t e);
      }),
    )) old in
    let all = all_set F (set views index w) other blank ((λ x. absurd (off x)), (λ x. absurd (off x))) (λ j u gone e. now j u e gone) in record {
      n = h.n;
      quota = h.quota;
      capacity = h.capacity;
      sent = h.sent;
      owner = own;
      taken = h.taken;
      reader = h.reader;
      core = h.core;
      of_clients = λ j u e. (all j u e).0;
      of_taker = λ j u e. (all j u e).1;
    }
