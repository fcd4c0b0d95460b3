-- The deadlines up to a moment are taken, in any order: each row is marked anew when one of its deadlines is met.
use Rattle.std.proofs.Common.{◌≡◌, ℕ, zero, suc, ◌≤◌, ◌<◌, Bool, true, not, ◌&&◌, List, [], ◌∷◌, set, get_or, length, refl, sym, ap, ◌∙◌, subst, arith, ◌⊎◌, inl, inr, length-set, get_or-set_same, get_or-set_other}
use Rattle.std.specs.Prelude.{All, Contains}
use Rattle.std.specs.List.Sorted.{IsPermutation}
use Rattle.std.specs.BinaryHeap.{IsHeap}
use Rattle.std.specs.declared.cmp.Reverse.{Reverse}
use Rattle.std.proofs.lemmas.Bool.{cases_eq}
use Rattle.std.proofs.lemmas.List.Elements.{All-set, All-head, All-tail, Contains-append_cases}
use Rattle.std.proofs.lemmas.List.Sorted.{Contains-permutation, All-permutation}
use Rattle.std.proofs.Math.Seq.{map-set_same}
use Rattle.gate_downtime.specs.declared.row.Row.{Row}
use Rattle.gate_downtime.specs.inner.Rows.{active_at, live_at, with_active, Counted, Wakes, Deadlines, Awake, Sound, IsDue, Settling, deadline_cmp}
use Rattle.gate_downtime.proofs.Marks.{ltb-same, between, active-same}

-- an element of a list that isn't its first is among the others
pub not-first : (x : Reverse (ℕ × ℕ)) (xs : Deadlines) (y : Reverse (ℕ × ℕ)) → (x ≡ y → ⊥) → Contains (x ∷ xs) y → Contains xs y
not-first x xs y ne has = elim (Contains-append_cases (x ∷ []) xs y has) [
  | inl one ↦ absurd (ne (only one.0 one.1 one.2))
  | inr rest ↦ rest
]
  where
    only : (k : ℕ) → k < length (x ∷ []) → get_or (x ∷ []) k y ≡ y → x ≡ y
    only zero lt is = is
    only (suc k) lt is = absurd (omega (arith, lt))

rewake : (now : ℕ) (old new : Deadlines) (k : ℕ) (a : Bool) (r : Row) → ((x : Reverse (ℕ × ℕ)) → now < x.0.0 → Contains old x → Contains new x)
    → Wakes now old k r → Wakes now new k (with_active a r)
rewake now old new k a r keeps w = record {
  end = λ lt. keeps (record { 0 = (r.over, k) }) lt (w.end lt);
  beginning = λ b is lt. keeps (record { 0 = (b, k) }) lt (w.beginning b is lt);
}

pub settling-step : (now : ℕ) (first rows rows' : List Row) (depths depths' : List ℕ) (deadlines deadlines' : Deadlines) (m k : ℕ) (d : Row)
    → Settling now first rows depths deadlines → m ≤ now → IsPermutation deadlines (record { 0 = (m, k) } ∷ deadlines') → IsHeap deadline_cmp deadlines'
    → rows' ≡ set rows k (with_active (active_at now (get_or rows k d)) (get_or rows k d)) → Counted rows' depths' → length depths' ≡ length depths
    → k < length rows
    → Settling now first rows' depths' deadlines'
settling-step now first rows rows' depths depths' deadlines deadlines' m k d s past perm heap is counted size in' =
    let v : Row = with_active (active_at now (get_or rows k d)) (get_or rows k d) in
    let P : List Row → Type 0 = λ new. Counted new depths' → Settling now first new depths' deadlines' in
    subst P (sym is) (λ counted.
    let len : length (set rows k v) ≡ length rows = length-set rows k v in
    let sized : All (λ (r : Row). r.entry.scheduled.object.place < length depths') rows = λ i e lt. omega (arith, size, s.fits.placed i e lt) in
    let left : All (λ (x : Reverse (ℕ × ℕ)). x.0.1 < length rows) deadlines' = All-tail (λ (x : Reverse (ℕ × ℕ)). x.0.1 < length rows) _ _ (All-permutation (λ (x : Reverse (ℕ × ℕ)). x.0.1 < length rows) _ _ perm s.fits.indexed) in
    let later : (x : Reverse (ℕ × ℕ)) → now < x.0.0 → Contains deadlines x → Contains deadlines' x =
    λ x lt has. not-first (record { 0 = (m, k) }) deadlines' x (λ e. let em : m ≡ x.0.0 = ap (λ (y : Reverse (ℕ × ℕ)). y.0.0) e in absurd (omega arith)) (Contains-permutation _ _ x perm has) in
    record {
      fits = record {
        order = heap;
        counted = counted;
        placed = All-set (λ (r : Row). r.entry.scheduled.object.place < length depths') rows k v (sized k d in') sized;
        indexed = λ i e lt. omega (arith, len, left i e lt);
        few = omega (arith, len, s.fits.few);
      };
      awake = λ j e lt.
          elim (cases_eq j k) [
            | inl same ↦
                let Q : ℕ → Type 0 = λ i. Wakes now deadlines' i (get_or (set rows k v) i e) in
                let R : Row → Type 0 = λ r. Wakes now deadlines' k r in
                subst Q (sym same) (subst R (sym (get_or-set_same rows k v e in')) (rewake now deadlines deadlines' k (active_at now (get_or rows k d)) (get_or rows k d) later (s.awake k d in')))
            | inr ne ↦
                let R : Row → Type 0 = λ r. Wakes now deadlines' j r in
                subst R (sym (get_or-set_other rows k j v e ne)) (rewake now deadlines deadlines' j (get_or rows j e).active (get_or rows j e) later (s.awake j e (omega (arith, len))))
          ];
      pending = λ j e lt.
          elim (cases_eq j k) [
            | inl same ↦
                let Q : ℕ → Type 0 = λ i. (get_or (set rows k v) i e).active ≡ active_at now (get_or (set rows k v) i e) in
                let R : Row → Type 0 = λ r. r.active ≡ active_at now r in
                inl (subst Q (sym same) (subst R (sym (get_or-set_same rows k v e in')) refl))
            | inr ne ↦
                let R : Row → Type 0 = λ r. (r.active ≡ active_at now r) ⊎ IsDue now deadlines' j in
                subst R (sym (get_or-set_other rows k j v e ne))
                (elim (s.pending j e (omega (arith, len))) [
                  | inl marked ↦ inl marked
                  | inr due ↦ inr (record {
                    moment = due.moment;
                    past = due.past;
                    there = not-first (record { 0 = (m, k) }) deadlines' (record { 0 = (due.moment, j) }) (λ q. ne (sym (ap (λ (y : Reverse (ℕ × ℕ)). y.0.1) q))) (Contains-permutation _ _ _ perm due.there);
                  })
                ])
          ];
      same = map-set_same (with_active true) rows k v d refl ∙ s.same;
    }) counted

-- a deadline's row is there
pub due-within : (now : ℕ) (first rows : List Row) (depths : List ℕ) (deadlines left : Deadlines) (m k : ℕ) → Settling now first rows depths deadlines
    → IsPermutation deadlines (record { 0 = (m, k) } ∷ left) → k < length rows
due-within now first rows depths deadlines left m k s perm =
    All-head (λ (x : Reverse (ℕ × ℕ)). x.0.1 < length rows) _ _ (All-permutation (λ (x : Reverse (ℕ × ℕ)). x.0.1 < length rows) _ _ perm s.fits.indexed)

pub settling-more : (now : ℕ) (first rows rows' : List Row) (depths depths' : List ℕ) (deadlines deadlines' : Deadlines) (m k : ℕ) (d : Row) (a : Bool)
    → Settling now first rows depths deadlines → m ≤ now → IsPermutation deadlines (record { 0 = (m, k) } ∷ deadlines') → IsHeap deadline_cmp deadlines'
    → a ≡ active_at now (get_or rows k d)
    → ((e : Row) → rows' ≡ set rows k (with_active a (get_or rows k e))) → Counted rows' depths' → length depths' ≡ length depths
    → Settling now first rows' depths' deadlines'
settling-more now first rows rows' depths depths' deadlines deadlines' m k d a s past perm heap mark is counted size =
    settling-step now first rows rows' depths depths' deadlines deadlines' m k d s past perm heap
    (is d ∙ ap (λ b. set rows k (with_active b (get_or rows k d))) mark) counted size (due-within now first rows depths deadlines deadlines' m k s perm)

-- on the way to a later moment
pub settling-start : (t now : ℕ) (rows : List Row) (depths : List ℕ) (deadlines : Deadlines) → t ≤ now → Sound t rows depths deadlines → Settling now rows rows depths deadlines
settling-start t now rows depths deadlines le sound = record {
  fits = sound.fits;
  awake = λ k d lt. record {
    end = λ before. (sound.awake k d lt).end (omega arith);
    beginning = λ b is before. (sound.awake k d lt).beginning b is (omega arith);
  };
  pending = λ k d lt. elim (active-same t now (get_or rows k d) le) [
    | inl turns ↦ inr (elim turns [
      | inl end ↦ record { moment = (get_or rows k d).over; past = end.1; there = (sound.awake k d lt).end end.0 }
      | inr begins ↦ record { moment = begins.0; past = begins.3; there = (sound.awake k d lt).beginning begins.0 begins.1 begins.2 }
    ])
    | inr same ↦ inl (sound.marked k d lt ∙ same)
  ];
  same = refl;
}

-- a row is as live as before, or it has a deadline on the way
pub live-or-due : (t now : ℕ) (rows : List Row) (deadlines : Deadlines) (k : ℕ) (d : Row) → t ≤ now → Awake t rows deadlines → k < length rows
    → (live_at t (get_or rows k d) ≡ live_at now (get_or rows k d)) ⊎ IsDue now deadlines k
live-or-due t now rows deadlines k d le awake lt = elim (between t now (get_or rows k d).over) [
  | inl h ↦ inr (record { moment = (get_or rows k d).over; past = h.1; there = (awake k d lt).end h.0 })
  | inr h ↦ inl (ap (λ b. not (get_or rows k d).entry.deleted && b) (ltb-same t now (get_or rows k d).over le h))
]

-- no deadline is left on the way
pub never-due : (now : ℕ) (deadlines : Deadlines) (k : ℕ) → All (λ (x : Reverse (ℕ × ℕ)). now < x.0.0) deadlines → IsDue now deadlines k → ⊥
never-due now deadlines k none due =
    let d : Reverse (ℕ × ℕ) = record { 0 = (due.moment, k) } in
    omega (arith, none due.there.0 d due.there.1, ap (λ (x : Reverse (ℕ × ℕ)). x.0.0) due.there.2, due.past)

pub settling-end : (now : ℕ) (first rows : List Row) (depths : List ℕ) (deadlines : Deadlines) → Settling now first rows depths deadlines
    → All (λ (x : Reverse (ℕ × ℕ)). now < x.0.0) deadlines → Sound now rows depths deadlines
settling-end now first rows depths deadlines s none = record {
  fits = s.fits;
  awake = s.awake;
  marked = λ k d lt. elim (s.pending k d lt) [
    | inl is ↦ is
    | inr due ↦ absurd (never-due now deadlines k none due)
  ];
}
