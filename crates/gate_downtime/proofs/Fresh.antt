-- One more row, and a changed mark.
use Rattle.std.proofs.Common.{◌≡◌, ℕ, ◌+◌, ◌-◌, ◌<◌, ◌^◌, Bool, true, false, cond, ◌&&◌, List, [], ◌∷◌, ◌++◌, map, set, get_or, length, refl, sym, ap, ◌∙◌, subst, arith, inl, inr, eqb, length-set, get_or-set_same, get_or-set_other, lit<}
use Rattle.std.specs.Prelude.{Some, All, Contains}
use Rattle.std.specs.List.{sum_by}
use Rattle.std.specs.List.Sorted.{IsPermutation}
use Rattle.std.specs.BinaryHeap.{KeepsHeap}
use Rattle.std.specs.declared.cmp.Reverse.{Reverse}
use Rattle.std.proofs.lemmas.Bool.{cases_lt, cases_eq}
use Rattle.std.proofs.lemmas.List.{get_or_append_left, get_or_push, length_push, set-set}
use Rattle.std.proofs.lemmas.List.Sums.{sum_by_push, sum_by-set}
use Rattle.std.proofs.lemmas.List.Elements.{All-set, All-cons, All-push, Contains-append_right, Contains-append_left}
use Rattle.std.proofs.lemmas.List.Sorted.{Contains-permutation, All-permutation}
use Rattle.std.proofs.Math.Seq.{map-set_same}
use Rattle.gate_downtime.specs.declared.row.Row.{Row}
use Rattle.gate_downtime.specs.inner.Rows.{active_at, with_active, here, Counted, CanCount, Fits, Wakes, Deadlines, Sound, SameButMarks, deadline_cmp, Nearly, Adds, Follows, Local}

pub adds-push : (k m : ℕ) (old new : Deadlines) → KeepsHeap deadline_cmp old new → IsPermutation (record { 0 = (m, k) } ∷ old) new → Adds k old new
adds-push k m old new heap perm = record {
  order = heap;
  keeps = λ x has. Contains-permutation _ _ x perm (Contains-append_right (record { 0 = (m, k) } ∷ []) old x has);
  only = λ n lt all. All-permutation (λ (d : Reverse (ℕ × ℕ)). d.0.1 < n) _ _ perm (All-cons (λ (d : Reverse (ℕ × ℕ)). d.0.1 < n) _ _ lt all);
}

pub there-push : (k m : ℕ) (old new : Deadlines) → IsPermutation (record { 0 = (m, k) } ∷ old) new → Contains new (record { 0 = (m, k) })
there-push k m old new perm = Contains-permutation _ _ _ perm (Contains-append_left (record { 0 = (m, k) } ∷ []) old (record { 0 = (m, k) }) (0, lit< tt, refl))

pub adds-trans : (k : ℕ) (a b c : Deadlines) → Adds k a b → Adds k b c → Adds k a c
adds-trans k a b c x y = record { order = λ h. y.order (x.order h); keeps = λ z has. y.keeps z (x.keeps z has); only = λ n lt all. y.only n lt (x.only n lt all) }

wakes-more : (t k : ℕ) (old new : Deadlines) (r : Row) → ((x : Reverse (ℕ × ℕ)) → Contains old x → Contains new x) → Wakes t old k r → Wakes t new k r
wakes-more t k old new r keeps w = record { end = λ lt. keeps _ (w.end lt); beginning = λ b is lt. keeps _ (w.beginning b is lt) }

and-false : (x : Bool) → ◌≡◌ {A = ℕ} (cond (x && false) 1 0) 0
and-false true = refl
and-false false = refl

counted-push : (rows : List Row) (depths : List ℕ) (r : Row) → r.active ≡ false → Counted rows depths → Counted (rows ++ r ∷ []) depths
counted-push rows depths r off counted p lt =
    let none : cond (here p r) 1 0 ≡ 0 = ap (λ b. cond (eqb r.entry.scheduled.object.place p && b) 1 0) off ∙ and-false (eqb r.entry.scheduled.object.place p) in
    omega (arith, counted p lt, none, sum_by_push (λ x. cond (here p x) 1 0) rows r)

-- the counters can count one more row, which isn't marked
pub counters-push : (rows pushed : List Row) (depths : List ℕ) (deadlines : Deadlines) (r : Row) → pushed ≡ rows ++ r ∷ [] → r.active ≡ false → r.entry.scheduled.object.place < length depths → length rows + 1 < 2 ^ 32 → Fits rows depths deadlines → CanCount pushed depths
counters-push rows pushed depths deadlines r is off placed few fits =
    let P : List Row → Type 0 = λ xs. CanCount xs depths in
    subst P (sym is) (record {
      counted = counted-push rows depths r off fits.counted;
      placed = All-push (λ (r : Row). r.entry.scheduled.object.place < length depths) rows r fits.placed placed;
      few = omega (arith, length_push rows r, few);
    })

-- an element of a list with one more at its end
pub push-cases : (rows : List Row) (r : Row) (P : ℕ → Row → Type 0) → ((k : ℕ) (d : Row) → k < length rows → P k (get_or rows k d)) → P (length rows) r
    → (k : ℕ) (d : Row) → k < length (rows ++ r ∷ []) → P k (get_or (rows ++ r ∷ []) k d)
push-cases rows r P old new k d lt =
    elim (cases_lt k (length rows)) [
      | inl low ↦ let Q : Row → Type 0 = P k in subst Q (sym (get_or_append_left rows (r ∷ []) d k low)) (old k d low)
      | inr high ↦
          let is : k ≡ length rows = omega (arith, high, lt, length_push rows r) in
          let Q : Row → Type 0 = P k in
          let R : ℕ → Type 0 = λ j. P j r in
          subst Q (sym (get_or_push rows r d k (sym is))) (subst R (sym is) new)
    ]

pub nearly-push : (t : ℕ) (rows : List Row) (depths : List ℕ) (deadlines deadlines' : Deadlines) (r : Row) → Sound t rows depths deadlines → Adds (length rows) deadlines deadlines' → Wakes t deadlines' (length rows) r
    → r.active ≡ false → r.entry.scheduled.object.place < length depths → length rows + 1 < 2 ^ 32
    → Nearly t (rows ++ r ∷ []) depths deadlines' (length rows)
nearly-push t rows depths deadlines deadlines' r s adds wakes off placed few =
    let len : length (rows ++ r ∷ []) ≡ length rows + 1 = length_push rows r in
    record {
      fits = record {
        order = adds.order s.fits.order;
        counted = counted-push rows depths r off s.fits.counted;
        placed = All-push (λ (r : Row). r.entry.scheduled.object.place < length depths) rows r s.fits.placed placed;
        indexed = adds.only (length (rows ++ r ∷ [])) (omega (arith, len)) (λ i e lt. omega (arith, len, s.fits.indexed i e lt));
        few = omega (arith, len, few);
      };
      awake = push-cases rows r (λ k x. Wakes t deadlines' k x) (λ k d lt. wakes-more t k deadlines deadlines' _ adds.keeps (s.awake k d lt)) wakes;
      marked = push-cases rows r (λ k x. (k ≡ length rows → ⊥) → x.active ≡ active_at t x) (λ k d lt ne. s.marked k d lt) (λ ne. absurd (ne refl));
    }

wakes-mark : (t k : ℕ) (dl : Deadlines) (a : Bool) (r : Row) → Wakes t dl k r → Wakes t dl k (with_active a r)
wakes-mark t k dl a r w = record { end = w.end; beginning = w.beginning }

-- an element after a write
pub set-cases : (rows : List Row) (k : ℕ) (v : Row) → k < length rows → (P : ℕ → Row → Type 0) → ((j : ℕ) (d : Row) → j < length rows → (j ≡ k → ⊥) → P j (get_or rows j d)) → P k v
    → (j : ℕ) (d : Row) → j < length (set rows k v) → P j (get_or (set rows k v) j d)
set-cases rows k v in' P old new j d lt =
    elim (cases_eq j k) [
      | inl same ↦
          let Q : ℕ → Type 0 = λ i. P i (get_or (set rows k v) i d) in
          let R : Row → Type 0 = P k in
          subst Q (sym same) (subst R (sym (get_or-set_same rows k v d in')) new)
      | inr ne ↦
          let R : Row → Type 0 = P j in
          subst R (sym (get_or-set_other rows k j v d ne)) (old j d (omega (arith, lt, length-set rows k v)) ne)
    ]

pub sound-mark : (t : ℕ) (rows rows' : List Row) (depths depths' : List ℕ) (deadlines : Deadlines) (k : ℕ) (d : Row) (a : Bool) → Nearly t rows depths deadlines k → k < length rows
    → a ≡ active_at t (get_or rows k d) → ((e : Row) → rows' ≡ set rows k (with_active a (get_or rows k e))) → Counted rows' depths' → length depths' ≡ length depths
    → Sound t rows' depths' deadlines
sound-mark t rows rows' depths depths' deadlines k d a s in' mark is counted size =
    let v : Row = with_active a (get_or rows k d) in
    let len : length (set rows k v) ≡ length rows = length-set rows k v in
    let sized : All (λ (r : Row). r.entry.scheduled.object.place < length depths') rows = λ i e lt. omega (arith, size, s.fits.placed i e lt) in
    let P : List Row → Type 0 = λ new. Counted new depths' → Sound t new depths' deadlines in
    subst P (sym (is d)) (λ counted. record {
      fits = record {
        order = s.fits.order;
        counted = counted;
        placed = All-set (λ (r : Row). r.entry.scheduled.object.place < length depths') rows k v (sized k d in') sized;
        indexed = λ i e lt. omega (arith, len, s.fits.indexed i e lt);
        few = omega (arith, len, s.fits.few);
      };
      awake = set-cases rows k v in' (λ j x. Wakes t deadlines j x) (λ j e lt ne. s.awake j e lt) (wakes-mark t k deadlines a (get_or rows k d) (s.awake k d in'));
      marked = set-cases rows k v in' (λ j x. x.active ≡ active_at t x) (λ j e lt ne. s.marked j e lt ne) mark;
    }) counted

pub same-mark : (rows rows' : List Row) (k : ℕ) (d : Row) (a : Bool) → ((e : Row) → rows' ≡ set rows k (with_active a (get_or rows k e))) → SameButMarks rows rows'
same-mark rows rows' k d a is = ap (map (with_active true)) (is d) ∙ map-set_same (with_active true) rows k (with_active a (get_or rows k d)) d refl

pub local-push : (first : ℕ) (rows : List Row) (r : Row) (k : ℕ) (x : Row) → k < length rows → Local first rows k x → Local first (rows ++ r ∷ []) k x
local-push first rows r k x lt l = record {
  id_is = l.id_is;
  linked = l.linked;
  follows = λ e.
      let low : x.entry.scheduled.plan.trigger - first < length rows = elim l.linked [ inl free ↦ omega (arith, free, lt) | inr w ↦ omega (arith, w.0, w.1, lt) ] in
      let P : Row → Type 0 = λ T. Follows x T.begun (Some T.over) in
      subst P (sym (get_or_append_left rows (r ∷ []) e (x.entry.scheduled.plan.trigger - first) low)) (l.follows e);
}

-- a row written over one of the same object and mark
pub nearly-set : (t : ℕ) (rows : List Row) (depths : List ℕ) (deadlines deadlines' : Deadlines) (k : ℕ) (r : Row) → k < length rows → Sound t rows depths deadlines → Adds k deadlines deadlines' → Wakes t deadlines' k r
    → ((d : Row) → r.active ≡ (get_or rows k d).active) → ((d : Row) → r.entry.scheduled.object.place ≡ (get_or rows k d).entry.scheduled.object.place)
    → Nearly t (set rows k r) depths deadlines' k
nearly-set t rows depths deadlines deadlines' k r in' s adds wakes mark place =
    let len : length (set rows k r) ≡ length rows = length-set rows k r in
    record {
      fits = record {
        order = adds.order s.fits.order;
        counted = λ p lt.
            let f : Row → ℕ = λ x. cond (here p x) 1 0 in
            let change : sum_by f (set rows k r) + f (get_or rows k r) ≡ sum_by f rows + f r = sum_by-set f rows k r r in' in
            let even : f r ≡ f (get_or rows k r) = ap (λ x. cond (eqb x p && r.active) 1 0) (place r) ∙ ap (λ x. cond (eqb (get_or rows k r).entry.scheduled.object.place p && x) 1 0) (mark r) in
            omega (arith, s.fits.counted p lt, change, even);
        placed = All-set (λ (r : Row). r.entry.scheduled.object.place < length depths) rows k r (omega (arith, place r, s.fits.placed k r in')) s.fits.placed;
        indexed = λ i e lt. omega (arith, len, (adds.only (length rows) in' s.fits.indexed) i e lt);
        few = omega (arith, len, s.fits.few);
      };
      awake = set-cases rows k r in' (λ j x. Wakes t deadlines' j x) (λ j d lt ne. wakes-more t j deadlines deadlines' _ adds.keeps (s.awake j d lt)) wakes;
      marked = set-cases rows k r in' (λ j x. (j ≡ k → ⊥) → x.active ≡ active_at t x) (λ j d lt ne ne'. s.marked j d lt) (λ ne. absurd (ne refl));
    }

pub replace-sound : (t : ℕ) (rows rows1 rows2 : List Row) (depths depths' : List ℕ) (dl dl' : Deadlines) (r : Row) (k : ℕ) (a : Bool)
    → k < length rows → rows1 ≡ set rows k r → Sound t rows depths dl → Adds k dl dl' → Wakes t dl' k r
    → ((d : Row) → r.active ≡ (get_or rows k d).active) → ((d : Row) → r.entry.scheduled.object.place ≡ (get_or rows k d).entry.scheduled.object.place)
    → a ≡ active_at t r → ((e : Row) → rows2 ≡ set rows1 k (with_active a (get_or rows1 k e))) → Counted rows2 depths' → length depths' ≡ length depths
    → Sound t rows2 depths' dl' × (rows2 ≡ set rows k (with_active a r))
replace-sound t rows rows1 rows2 depths depths' dl dl' r k a in' re s adds wakes mark place act is counted size =
    let Q : List Row → Type 0 = λ xs. ((e : Row) → rows2 ≡ set xs k (with_active a (get_or xs k e))) → Sound t rows2 depths' dl' × (rows2 ≡ set rows k (with_active a r)) in
    let back : get_or (set rows k r) k r ≡ r = get_or-set_same rows k r r in' in
    subst Q (sym re) (λ is. (
      sound-mark t (set rows k r) rows2 depths depths' dl' k r a (nearly-set t rows depths dl dl' k r in' s adds wakes mark place) (omega (arith, in', length-set rows k r))
          (act ∙ ap (active_at t) (sym back)) is counted size,
      is r ∙ ap (λ x. set (set rows k r) k (with_active a x)) back ∙ set-set rows k r (with_active a r),
    )) is

pub add-sound : (t : ℕ) (rows rows1 rows2 : List Row) (depths depths' : List ℕ) (dl dl' : Deadlines) (r : Row) (k : ℕ) (a : Bool)
    → k ≡ length rows → rows1 ≡ rows ++ r ∷ [] → Sound t rows depths dl → Adds k dl dl' → Wakes t dl' k r → r.active ≡ false → r.entry.scheduled.object.place < length depths → length rows + 1 < 2 ^ 32
    → a ≡ active_at t r → ((e : Row) → rows2 ≡ set rows1 k (with_active a (get_or rows1 k e))) → Counted rows2 depths' → length depths' ≡ length depths
    → Sound t rows2 depths' dl' × SameButMarks (rows ++ r ∷ []) rows2
add-sound t rows rows1 rows2 depths depths' dl dl' r k a ke re s adds wakes off placed few mark is counted size =
    let P : ℕ → Type 0 = λ j. Adds j dl dl' → Wakes t dl' j r → ((e : Row) → rows2 ≡ set rows1 j (with_active a (get_or rows1 j e))) → Sound t rows2 depths' dl' × SameButMarks (rows ++ r ∷ []) rows2 in
    let Q : List Row → Type 0 = λ xs. ((e : Row) → rows2 ≡ set xs (length rows) (with_active a (get_or xs (length rows) e))) → Sound t rows2 depths' dl' × SameButMarks (rows ++ r ∷ []) rows2 in
    subst P (sym ke) (λ adds wakes. subst Q (sym re) (λ is. (
      sound-mark t (rows ++ r ∷ []) rows2 depths depths' dl' (length rows) r a (nearly-push t rows depths dl dl' r s adds wakes off placed few) (omega (arith, length_push rows r))
          (mark ∙ ap (active_at t) (sym (get_or_push rows r r (length rows) refl))) is counted size,
      same-mark (rows ++ r ∷ []) rows2 (length rows) r a is,
    ))) adds wakes is

-- the rows with one more, marked
pub added-rows : (rows pushed marked : List Row) (r : Row) (k : ℕ) (a : Bool) → k ≡ length rows → pushed ≡ rows ++ r ∷ [] → ((e : Row) → marked ≡ set pushed k (with_active a (get_or pushed k e))) → marked ≡ set (rows ++ r ∷ []) (length rows) (with_active a r)
added-rows rows pushed marked r k a ke re is =
    is r ∙ ap (λ xs. set xs k (with_active a (get_or xs k r))) re ∙ ap (λ x. set (rows ++ r ∷ []) k (with_active a x)) (get_or_push rows r r k (sym ke)) ∙ ap (λ i. set (rows ++ r ∷ []) i (with_active a r)) ke
