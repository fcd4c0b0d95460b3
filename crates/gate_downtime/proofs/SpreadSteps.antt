-- A beginning spreads along the lists of children.
use Rattle.std.proofs.Common.{◌≡◌, ◌≢◌, ℕ, ◌+◌, ◌-◌, ◌≤◌, ◌<◌, Bool, true, false, List, [], ◌∷◌, ◌++◌, map, reverse, set, get_or, length, Option, sym, ap, ◌∙◌, subst, arith, ◌⊎◌, inl, inr, length-set, get_or-set_same, get_or-set_other}
use Rattle.std.specs.Prelude.{Some, None, All, option_to_list}
use Rattle.std.proofs.lemmas.Bool.{cases_lt, cases_eq, cases_Bool}
use Rattle.std.proofs.lemmas.List.Sums.{sum_by_push}
use Rattle.std.proofs.lemmas.List.Elements.{All-append, All-push, All-contains, Contains-append_left, Contains-push, Contains-push_cases}
use Rattle.std.proofs.lemmas.List.{get_or_default, get_or_append_left, length_push, append-nil, map-set}
use Rattle.std.proofs.Math.Seq.{map-set_same}
use Rattle.gate_downtime.proofs.Fresh.{set-cases}
use Rattle.gate_downtime.specs.declared.row.Row.{Row}
use Rattle.gate_downtime.specs.declared.links.Link.{Link}
use Rattle.gate_downtime.specs.inner.Rows.{Follows, Consistent, row_entries}
use Rattle.gate_downtime.specs.inner.Links.{trig, Newest, Linked, PlacedAt, FollowsAt, Covered, IsPending, IsRoot, IsWaiting, Spreading, Refreshes, load}
use Rattle.gate_downtime.proofs.Cached.{begin_by-free, over_by-free}

-- the older siblings of a pending row are covered by the next sibling
pub cover-sibling : (rows : List Row) (pending : List ℕ) (c : ℕ) (d : Row) (o : Option ℕ) → Newest rows (trig (get_or rows c d)) c o
    → (j : ℕ) → (j ≡ c → ⊥) → Covered rows (pending ++ c ∷ []) j → Covered rows (pending ++ option_to_list o) j
cover-sibling rows pending c d o newest j ne cov =
    elim (Contains-push_cases pending c cov.by cov.among) [
      | inl old ↦ record { by = cov.by; among = Contains-append_left pending (option_to_list o) cov.by old; upto = cov.upto; same = cov.same }
      | inr is ↦
          let less : j < c = omega (arith, ne, cov.upto, is) in
          let P : ℕ → Type 0 = λ b. (d e : Row) → trig (get_or rows j d) ≡ trig (get_or rows b e) in
          next o newest less (subst P (sym is) cov.same)
    ]
  where
    next : (o : Option ℕ) → Newest rows (trig (get_or rows c d)) c o → j < c → ((d e : Row) → trig (get_or rows j d) ≡ trig (get_or rows c e)) → Covered rows (pending ++ option_to_list o) j
    next None none less same = absurd (none j d less (same d d))
    next (Some f) some less same =
        elim (cases_lt f j) [
          | inl after ↦ absurd (some.2 j d after less (same d d))
          | inr upto ↦ record { by = f; among = Contains-push pending f; upto = upto; same = λ x e. same x d ∙ sym (some.1 e) }
        ]

pub cover-child : (rows : List Row) (pending : List ℕ) (x n : ℕ) (z : Row) (o : Option ℕ) → Newest rows x n o → (j : ℕ) → j < n → ((d : Row) → trig (get_or rows j d) ≡ x) → Covered rows (pending ++ option_to_list o) j
cover-child rows pending x n z None none j lt is = absurd (none j z lt (is z))
cover-child rows pending x n z (Some f) some j lt is =
    elim (cases_lt f j) [
      | inl after ↦ absurd (some.2 j z after lt (is z))
      | inr upto ↦ record { by = f; among = Contains-push pending f; upto = upto; same = λ d e. is d ∙ sym (some.1 e) }
    ]

pub cover-left : (rows : List Row) (xs ys : List ℕ) (j : ℕ) → Covered rows xs j → Covered rows (xs ++ ys) j
cover-left rows xs ys j cov = record { by = cov.by; among = Contains-append_left xs ys cov.by cov.among; upto = cov.upto; same = cov.same }

-- rows with the same triggers
abbrev pub SameTriggers : List Row → List Row → Type 0
SameTriggers xs ys = (j : ℕ) (d : Row) → trig (get_or ys j d) ≡ trig (get_or xs j d)

pub set-triggers : (rows : List Row) (k : ℕ) (v : Row) → k < length rows → ((d : Row) → v.entry.scheduled ≡ (get_or rows k d).entry.scheduled) → SameTriggers rows (set rows k v)
set-triggers rows k v in' entry j d =
    elim (cases_eq j k) [
      | inl same ↦
          let P : ℕ → Type 0 = λ i. trig (get_or (set rows k v) i d) ≡ trig (get_or rows i d) in
          subst P (sym same) (ap trig (get_or-set_same rows k v d in') ∙ ap (λ a. a.plan.trigger) (entry d))
      | inr ne ↦ ap trig (get_or-set_other rows k j v d ne)
    ]

cover-same : (xs ys : List Row) (pending : List ℕ) (j : ℕ) → SameTriggers xs ys → Covered xs pending j → Covered ys pending j
cover-same xs ys pending j same cov = record { by = cov.by; among = cov.among; upto = cov.upto; same = λ d e. same j d ∙ cov.same d e ∙ sym (same cov.by e) }

newest-same : (xs ys : List Row) (x n : ℕ) (o : Option ℕ) → SameTriggers xs ys → Newest xs x n o → Newest ys x n o
newest-same xs ys x n None same none = λ j d lt is. none j d lt (sym (same j d) ∙ is)
newest-same xs ys x n (Some f) same some = (some.0, λ d. same f d ∙ some.1 d, λ j d after lt is. some.2 j d after lt (sym (same j d) ∙ is))

pub linked-same : (first : ℕ) (xs ys : List Row) (links : List Link) → length ys ≡ length xs → SameTriggers xs ys → Linked first xs links → Linked first ys links
linked-same first xs ys links len same l =
    let P : ℕ → Type 0 = λ n. (k : ℕ) (m : Link) → k < n → Newest ys (first + k) n (get_or links k m).child in
    let child : P (length xs) = λ k m lt. newest-same xs ys (first + k) (length xs) _ same (l.child k m lt) in
    record {
      len = l.len ∙ sym len;
      child = subst P (sym len) child;
      sibling = λ k m d lt ne.
          let Q : ℕ → Type 0 = λ x. Newest ys x k (get_or links k m).sibling in
          subst Q (sym (same k d)) (newest-same xs ys (trig (get_or xs k d)) k _ same (l.sibling k m d (omega (arith, lt, len)) (λ z. ne (same k d ∙ z))));
    }

set-settled : (rows : List Row) (k : ℕ) (v : Row) → k < length rows → v.settled ≡ true → (j : ℕ) (e : Row) → (get_or rows j e).settled ≡ true → (get_or (set rows k v) j e).settled ≡ true
set-settled rows k v in' on j e was =
    elim (cases_eq j k) [
      | inl same ↦
          let P : ℕ → Type 0 = λ i. (get_or (set rows k v) i e).settled ≡ true in
          subst P (sym same) (ap (λ (r : Row). r.settled) (get_or-set_same rows k v e in') ∙ on)
      | inr ne ↦ ap (λ (r : Row). r.settled) (get_or-set_other rows k j v e ne) ∙ was
    ]

pending-same : (first : ℕ) (xs ys : List Row) (c : ℕ) → length ys ≡ length xs → SameTriggers xs ys → ((j : ℕ) (e : Row) → (get_or xs j e).settled ≡ true → (get_or ys j e).settled ≡ true)
    → IsPending first xs c → IsPending first ys c
pending-same first xs ys c len same up p = record {
  within = omega (arith, p.within, len);
  triggered = λ d z. p.triggered d (sym (same c d) ∙ z);
  settled = λ d e.
      let P : ℕ → Type 0 = λ x. (get_or ys (x - first) e).settled ≡ true in
      subst P (sym (same c d)) (up (trig (get_or xs c d) - first) e (p.settled d e));
}

-- the next sibling of a pending row is one to be pending
pending-sibling : (first : ℕ) (rows : List Row) (c : ℕ) (d : Row) (o : Option ℕ) → Newest rows (trig (get_or rows c d)) c o → IsPending first rows c → All (IsPending first rows) (option_to_list o)
pending-sibling first rows c d None none p = λ k x lt. absurd (omega (arith, lt))
pending-sibling first rows c d (Some f) some p = All-push (IsPending first rows) [] f (λ k x lt. absurd (omega (arith, lt))) (record {
  within = omega (arith, some.0, p.within);
  triggered = λ x z. p.triggered d (sym (some.1 x) ∙ z);
  settled = λ x e.
      let P : ℕ → Type 0 = λ t. (get_or rows (t - first) e).settled ≡ true in
      subst P (sym (some.1 x)) (p.settled d e);
})

pending-child : (first : ℕ) (rows : List Row) (c : ℕ) (o : Option ℕ) → 0 < first → Newest rows (first + c) (length rows) o → ((e : Row) → (get_or rows c e).settled ≡ true) → All (IsPending first rows) (option_to_list o)
pending-child first rows c None from none p = λ k x lt. absurd (omega (arith, lt))
pending-child first rows c (Some f) from some p = All-push (IsPending first rows) [] f (λ k x lt. absurd (omega (arith, lt))) (record {
  within = some.0;
  triggered = λ x z. let is : trig (get_or rows f x) ≡ first + c = some.1 x in omega (arith, is, z, from);
  settled = λ x e.
      let P : ℕ → Type 0 = λ t. (get_or rows t e).settled ≡ true in
      let is : trig (get_or rows f x) ≡ first + c = some.1 x in
      let at : c ≡ trig (get_or rows f x) - first = omega (arith, is) in
      subst P at (p e);
})

-- the rest of a list, once a row of it is done
abbrev pub Rest : List ℕ → Option ℕ → Option ℕ → List ℕ
Rest pending sib child = (pending ++ option_to_list sib) ++ option_to_list child

pub follows-free : (r : Row) (b b' o o' : Option ℕ) → trig r ≡ 0 → Follows r b o → Follows r b' o'
follows-free r b b' o o' free f = record {
  begun_is = f.begun_is ∙ begin_by-free r.entry b b' free;
  over_is = f.over_is ∙ over_by-free r.entry r.begun b b' o o' free;
}

-- a row that follows from its trigger's row still does, where that row wasn't written
follows-kept : (first : ℕ) (rows : List Row) (k : ℕ) (v r : Row) → (trig r ≡ first + k → ⊥) → (trig r ≡ 0) ⊎ (first ≤ trig r) → FollowsAt first rows r → FollowsAt first (set rows k v) r
follows-kept first rows k v r other linked f e =
    elim linked [
      | inl free ↦ follows-free r _ _ _ _ free (f e)
      | inr from ↦
          let ne : trig r - first ≢ k = λ q. other (omega (arith, q, from)) in
          let P : Row → Type 0 = λ T. Follows r T.begun (Some T.over) in
          subst P (sym (get_or-set_other rows k (trig r - first) v e ne)) (f e)
    ]

front-pending : (first : ℕ) (rows : List Row) (pending : List ℕ) (c : ℕ) → All (IsPending first rows) (pending ++ c ∷ []) → All (IsPending first rows) pending
front-pending first rows pending c all k x lt =
    let P : ℕ → Type 0 = IsPending first rows in
    subst P (get_or_append_left pending (c ∷ []) x k lt) (all k x (omega (arith, lt, length_push pending c)))

pub skip-step : (first : ℕ) (rows : List Row) (links : List Link) (pending : List ℕ) (c : ℕ) (d : Row) (l : Link) → Spreading first rows links (pending ++ c ∷ []) → c < length rows → (get_or rows c d).settled ≡ true
    → Spreading first rows links (pending ++ option_to_list (get_or links c l).sibling)
skip-step first rows links pending c d l s in' on =
    let at : IsPending first rows c = All-contains (IsPending first rows) _ c s.ready (Contains-push pending c) in
    let newest : Newest rows (trig (get_or rows c d)) c (get_or links c l).sibling = s.linked.sibling c l d in' (at.triggered d) in
    record {
      from = s.from;
      placed = s.placed;
      linked = s.linked;
      chain = s.chain;
      roots = s.roots;
      follows = λ j e lt. elim (s.follows j e lt) [
        | inl f ↦ inl f
        | inr w ↦ elim (cases_eq j c) [
          | inl same ↦ absurd (both _ (get_same rows j c e d same lt) on w.0)
          | inr ne ↦ inr (w.0, cover-sibling rows pending c d _ newest j ne w.1)
        ]
      ];
      ready = All-append (IsPending first rows) pending _ (front-pending first rows pending c s.ready) (pending-sibling first rows c d _ newest at);
    }
  where
    both : (b : Bool) {x : Bool} → b ≡ x → x ≡ true → b ≡ false → ⊥
    both b e t f = cc

    get_same : (rows : List Row) (j k : ℕ) (e d : Row) → j ≡ k → j < length rows → (get_or rows j e).settled ≡ (get_or rows k d).settled
    get_same rows j k e d same lt = ap (λ (r : Row). r.settled) (get_or_default rows j e d lt ∙ ap (λ i. get_or rows i d) same)

pub placed-set : (first : ℕ) (rows : List Row) (c : ℕ) (v : Row) → c < length rows → ((d : Row) → v.entry.scheduled ≡ (get_or rows c d).entry.scheduled)
    → ((k : ℕ) (d : Row) → k < length rows → PlacedAt first k (get_or rows k d)) → (k : ℕ) (d : Row) → k < length (set rows c v) → PlacedAt first k (get_or (set rows c v) k d)
placed-set first rows c v in' entry placed =
    set-cases rows c v in' (λ k r. PlacedAt first k r) (λ k d lt ne. placed k d lt) (record {
      id_is = ap (λ a. a.id) (entry v) ∙ (placed c v in').id_is;
      linked =
          let Q : ℕ → Type 0 = λ x. (x ≡ 0) ⊎ ((first ≤ x) × (x < first + c)) in
          subst Q (sym (ap (λ a. a.plan.trigger) (entry v))) (placed c v in').linked;
    })

chain-set : (first : ℕ) (rows : List Row) (c : ℕ) (v : Row) → c < length rows → ((d : Row) → v.entry.scheduled ≡ (get_or rows c d).entry.scheduled) → v.settled ≡ true → ((trig (get_or rows c v) ≡ 0 → ⊥) → (e : Row) → (get_or rows (trig (get_or rows c v) - first) e).settled ≡ true)
    → ((j : ℕ) (d e : Row) → j < length rows → (get_or rows j d).settled ≡ true → (trig (get_or rows j d) ≡ 0 → ⊥) → (get_or rows (trig (get_or rows j d) - first) e).settled ≡ true)
    → (j : ℕ) (d e : Row) → j < length (set rows c v) → (get_or (set rows c v) j d).settled ≡ true → (trig (get_or (set rows c v) j d) ≡ 0 → ⊥) → (get_or (set rows c v) (trig (get_or (set rows c v) j d) - first) e).settled ≡ true
chain-set first rows c v in' entry on at chain j d e =
    let P : ℕ → Row → Type 0 = λ j r. r.settled ≡ true → (trig r ≡ 0 → ⊥) → (get_or (set rows c v) (trig r - first) e).settled ≡ true in
    set-cases rows c v in' P (λ j d lt ne was has. set-settled rows c v in' on (trig (get_or rows j d) - first) e (chain j d e lt was has))
    (λ was has.
    let Q : ℕ → Type 0 = λ x. (get_or (set rows c v) (x - first) e).settled ≡ true in
    subst Q (sym (ap (λ a. a.plan.trigger) (entry v))) (set-settled rows c v in' on (trig (get_or rows c v) - first) e (at (λ z. has (ap (λ a. a.plan.trigger) (entry v) ∙ z)) e))) j d

roots-set : (first : ℕ) (rows : List Row) (c : ℕ) (v : Row) → c < length rows → ((j : ℕ) (d : Row) → j < length rows → IsRoot (get_or rows j d)) → IsRoot v
    → (j : ℕ) (d : Row) → j < length (set rows c v) → IsRoot (get_or (set rows c v) j d)
roots-set first rows c v in' roots here = set-cases rows c v in' (λ j r. IsRoot r) (λ j d lt ne. roots j d lt) here

follows-set : (first : ℕ) (rows : List Row) (links : List Link) (pending : List ℕ) (c : ℕ) (d : Row) (v : Row) (sib child : Option ℕ) → Spreading first rows links (pending ++ c ∷ [])
    → c < length rows → (get_or rows c d).settled ≡ false → ((d : Row) → v.entry.scheduled ≡ (get_or rows c d).entry.scheduled) → FollowsAt first rows v
    → Newest rows (trig (get_or rows c d)) c sib → Newest rows (first + c) (length rows) child
    → (j : ℕ) (e : Row) → j < length (set rows c v) → FollowsAt first (set rows c v) (get_or (set rows c v) j e) ⊎ (((get_or (set rows c v) j e).settled ≡ false) × Covered (set rows c v) (Rest pending sib child) j)
follows-set first rows links pending c d v sib child s in' off entry f newest kids =
    let same : SameTriggers rows (set rows c v) = set-triggers rows c v in' entry in
    let tv : trig v ≡ trig (get_or rows c v) = ap (λ a. a.plan.trigger) (entry v) in
    let P : ℕ → Row → Type 0 = λ j r. FollowsAt first (set rows c v) r ⊎ ((r.settled ≡ false) × Covered (set rows c v) (Rest pending sib child) j) in
    set-cases rows c v in' P
    (λ j e lt ne. elim (s.follows j e lt) [
      | inr w ↦ inr (w.0, cover-same rows (set rows c v) (Rest pending sib child) j same (cover-left rows (pending ++ option_to_list sib) (option_to_list child) j (cover-sibling rows pending c d sib newest j ne w.1)))
      | inl g ↦ elim (cases_eq (trig (get_or rows j e)) (first + c)) [
        | inr other ↦ inl (follows-kept first rows c v (get_or rows j e) other (before (s.placed j e lt).linked) g)
        | inl is ↦ elim (cases_Bool (get_or rows j e).settled) [
          | inl on ↦
              let Q : ℕ → Type 0 = λ x. (get_or rows x d).settled ≡ true in
              let low : trig (get_or rows j e) - first ≡ c = omega (arith, is) in
              absurd (both (subst Q low (s.chain j e d lt on (λ z. omega (arith, z, is, s.from)))) off)
          | inr no' ↦ inr (no', cover-same rows (set rows c v) (Rest pending sib child) j same (cover-child rows (pending ++ option_to_list sib) (first + c) (length rows) e child kids j lt (λ x. ap trig (get_or_default rows j x e lt) ∙ is)))
        ]
      ]
    ])
    (inl (follows-kept first rows c v v (λ q. elim (s.placed c v in').linked [
      | inl free ↦ omega (arith, q, tv, free, s.from)
      | inr within ↦ omega (arith, q, tv, within.1)
    ]) (elim (s.placed c v in').linked [ inl free ↦ inl (tv ∙ free) | inr within ↦ inr (omega (arith, tv, within.0)) ]) f))
  where
    both : {b : Bool} → b ≡ true → b ≡ false → ⊥
    both t f = cc

    before : {x n : ℕ} → (x ≡ 0) ⊎ ((first ≤ x) × (x < n)) → (x ≡ 0) ⊎ (first ≤ x)
    before (inl z) = inl z
    before (inr w) = inr w.0

pub spread-step : (first : ℕ) (rows rows' : List Row) (links : List Link) (pending : List ℕ) (c : ℕ) (d : Row) (l l' : Link) → Spreading first rows links (pending ++ c ∷ []) → (get_or rows c d).settled ≡ false
    → Refreshes first rows rows' c
    → Spreading first rows' links (Rest pending (get_or links c l).sibling (get_or links c l').child)
spread-step first rows rows' links pending c d l l' s off w =
    let v : Row = w.row in
    let new : List Row = set rows c v in
    let at : IsPending first rows c = All-contains (IsPending first rows) _ c s.ready (Contains-push pending c) in
    let newest : Newest rows (trig (get_or rows c d)) c (get_or links c l).sibling = s.linked.sibling c l d at.within (at.triggered d) in
    let kids : Newest rows (first + c) (length rows) (get_or links c l').child = s.linked.child c l' at.within in
    let scheduled : (d : Row) → v.entry.scheduled ≡ (get_or rows c d).entry.scheduled = λ d. ap (λ e. e.scheduled) (w.entry d) in
    let same : SameTriggers rows new = set-triggers rows c v at.within scheduled in
    let len : length new ≡ length rows = length-set rows c v in
    let up : (j : ℕ) (e : Row) → (get_or rows j e).settled ≡ true → (get_or new j e).settled ≡ true = set-settled rows c v at.within w.settled in
    let kept : (x : ℕ) → IsPending first rows x → IsPending first new x = λ x p. pending-same first rows new x len same up p in
    let P : List Row → Type 0 = λ rows'. Spreading first rows' links (Rest pending (get_or links c l).sibling (get_or links c l').child) in
    let Q : ℕ → Type 0 = λ n. Newest new (first + c) n (get_or links c l').child in
    subst P (sym w.is) (record {
      from = s.from;
      placed = placed-set first rows c v at.within scheduled s.placed;
      linked = linked-same first rows new links len same s.linked;
      chain = chain-set first rows c v at.within scheduled w.settled (λ z e. at.settled v e) s.chain;
      roots = roots-set first rows c v at.within s.roots (λ free. absurd (at.triggered v (sym (ap (λ a. a.plan.trigger) (scheduled v)) ∙ free)));
      follows = follows-set first rows links pending c d v _ _ s at.within off scheduled w.follows newest kids;
      ready = All-append (IsPending first new) (pending ++ option_to_list (get_or links c l).sibling) _
          (All-append (IsPending first new) pending _ (λ k x lt. kept _ (front-pending first rows pending c s.ready k x lt)) (λ k x lt. kept _ (pending-sibling first rows c d _ newest at k x lt)))
          (pending-child first new c _ s.from (subst Q (sym len) (newest-same rows new (first + c) (length rows) _ same kids)) (λ e. ap (λ (r : Row). r.settled) (get_or-set_same rows c v e at.within) ∙ w.settled));
    })

-- with nothing pending every row follows from its trigger's
pub spread-end : (first : ℕ) (rows : List Row) (links : List Link) → Spreading first rows links [] → Consistent first rows
spread-end first rows links s k d lt = record {
  id_is = (s.placed k d lt).id_is;
  linked = (s.placed k d lt).linked;
  follows = elim (s.follows k d lt) [
    | inl f ↦ f
    | inr w ↦ absurd (omega (arith, w.1.among.1))
  ];
}

pub entries-refreshes : (first : ℕ) (rows rows' : List Row) (c : ℕ) → Refreshes first rows rows' c → row_entries rows' ≡ row_entries rows
entries-refreshes first rows rows' c w = ap row_entries w.is ∙ ap reverse (map-set_same (λ (r : Row). r.entry) rows c w.row w.row (w.entry w.row))

pub sibling-less : (rows : List Row) (x c : ℕ) (pending : List ℕ) (o : Option ℕ) → Newest rows x c o → load (pending ++ option_to_list o) + 1 ≤ load (pending ++ c ∷ [])
sibling-less rows x c pending None none = omega (arith, sum_by_push (λ c. c + 1) pending c, ap load (append-nil pending))
sibling-less rows x c pending (Some f) some = omega (arith, sum_by_push (λ c. c + 1) pending c, sum_by_push (λ c. c + 1) pending f, some.0)

pub child-less : (rows : List Row) (x n : ℕ) (pending : List ℕ) (o : Option ℕ) → Newest rows x n o → load (pending ++ option_to_list o) ≤ load pending + n
child-less rows x n pending None none = omega (arith, ap load (append-nil pending))
child-less rows x n pending (Some f) some = omega (arith, sum_by_push (λ c. c + 1) pending f, some.0)

-- the first transition of a row without a trigger: its children are to come
pub root-step : (first : ℕ) (rows rows' : List Row) (links : List Link) (c : ℕ) (d v : Row) (l : Link) → Spreading first rows links [] → c < length rows → trig (get_or rows c d) ≡ 0 → (get_or rows c d).settled ≡ false
    → rows' ≡ set rows c v → ((e : Row) → v.entry.scheduled ≡ (get_or rows c e).entry.scheduled) → v.settled ≡ true → Follows v None (Some 0) → (v.entry.transition ≡ None → ⊥)
    → Spreading first rows' links (option_to_list (get_or links c l).child)
root-step first rows rows' links c d v l s in' free off is scheduled on f begun =
    let new : List Row = set rows c v in
    let same : SameTriggers rows new = set-triggers rows c v in' scheduled in
    let len : length new ≡ length rows = length-set rows c v in
    let kids : Newest rows (first + c) (length rows) (get_or links c l).child = s.linked.child c l in' in
    let zero' : trig v ≡ 0 = ap (λ a. a.plan.trigger) (scheduled d) ∙ free in
    let none : (j : ℕ) → Covered rows [] j → ⊥ = λ j w. absurd (omega (arith, w.among.1)) in
    let Q : ℕ → Type 0 = λ n. Newest new (first + c) n (get_or links c l).child in
    let P : List Row → Type 0 = λ rows'. Spreading first rows' links (option_to_list (get_or links c l).child) in
    let R : ℕ → Row → Type 0 = λ j r. FollowsAt first new r ⊎ ((r.settled ≡ false) × Covered new (option_to_list (get_or links c l).child) j) in
    subst P (sym is) (record {
      from = s.from;
      placed = placed-set first rows c v in' scheduled s.placed;
      linked = linked-same first rows new links len same s.linked;
      chain = chain-set first rows c v in' scheduled on (λ has e. absurd (has (sym (ap (λ a. a.plan.trigger) (scheduled v)) ∙ zero'))) s.chain;
      roots = roots-set first rows c v in' s.roots (λ free fixed gone. absurd (begun gone));
      follows = set-cases rows c v in' R
          (λ j e lt ne. elim (s.follows j e lt) [
            | inr w ↦ absurd (none j w.1)
            | inl g ↦ elim (cases_eq (trig (get_or rows j e)) (first + c)) [
              | inr other ↦ inl (follows-kept first rows c v (get_or rows j e) other (before (s.placed j e lt).linked) g)
              | inl child ↦ elim (cases_Bool (get_or rows j e).settled) [
                | inl yes' ↦
                    let S : ℕ → Type 0 = λ x. (get_or rows x d).settled ≡ true in
                    let low : trig (get_or rows j e) - first ≡ c = omega (arith, child) in
                    absurd (both (subst S low (s.chain j e d lt yes' (λ z. omega (arith, z, child, s.from)))) off)
                | inr no' ↦ inr (no', cover-same rows new _ j same (cover-child rows [] (first + c) (length rows) e _ kids j lt (λ x. ap trig (get_or_default rows j x e lt) ∙ child)))
              ]
            ]
          ])
          (inl (λ e. follows-free v None _ (Some 0) _ zero' f));
      ready = pending-child first new c _ s.from (subst Q (sym len) (newest-same rows new (first + c) (length rows) _ same kids)) (λ e. ap (λ (r : Row). r.settled) (get_or-set_same rows c v e in') ∙ on);
    })
  where
    both : {b : Bool} → b ≡ true → b ≡ false → ⊥
    both t f = cc

    before : {x n : ℕ} → (x ≡ 0) ⊎ ((first ≤ x) × (x < n)) → (x ≡ 0) ⊎ (first ≤ x)
    before (inl z) = inl z
    before (inr w) = inr w.0

pub waiting-unsettled : (first : ℕ) (rows : List Row) (links : List Link) (c : ℕ) (d : Row) → Spreading first rows links [] → c < length rows → IsWaiting (get_or rows c d) → (get_or rows c d).settled ≡ false
waiting-unsettled first rows links c d s lt w = s.roots c d lt w.free w.flexible w.unturned

pub entries-set : (rows rows' : List Row) (c : ℕ) (v : Row) → rows' ≡ set rows c v → row_entries rows' ≡ reverse (set (map (λ (r : Row). r.entry) rows) c v.entry)
entries-set rows rows' c v is = ap row_entries is ∙ ap reverse (map-set (λ (r : Row). r.entry) rows c v)
