-- Marks, counters and deadlines as the moment moves.
use Rattle.std.proofs.Common.{◌≡◌, ◌≢◌, ℕ, ◌+◌, ◌-◌, ◌≤◌, ◌<◌, Bool, true, false, cond, not, ◌&&◌, List, set, get_or, length, Option, refl, sym, ap, ◌∙◌, subst, arith, ◌⊎◌, inl, inr, ltb, leb, eqb, length-set, get_or-set_same, get_or-set_other}
use mathlib.Core.Bool.{beq}
use Rattle.std.specs.Prelude.{Some, None, count_by}
use Rattle.std.specs.List.{sum_by}
use Rattle.std.proofs.lemmas.Bool.{lt-ltb, le-ltb, le-leb, lt-leb, cases_lt, cases_eq, eq-eqb, ne_eqb}
use Rattle.std.proofs.lemmas.List.Sums.{sum_by-set, get_or-le-sum_by, count_by-le-length}
use Rattle.gate_model.specs.Downtime.{is_begun_by}
use Rattle.gate_downtime.specs.declared.row.Row.{Row}
use Rattle.gate_downtime.specs.inner.Rows.{active_at, with_active, here, Counted}

-- between two moments without a beginning and without an end a row stays as it is
pub ltb-same : (t now o : ℕ) → t ≤ now → (now < o) ⊎ (o ≤ t) → ltb t o ≡ ltb now o
ltb-same t now o le (inl h) = lt-ltb t o (omega arith) ∙ sym (lt-ltb now o h)
ltb-same t now o le (inr h) = le-ltb t o h ∙ sym (le-ltb now o (omega arith))

leb-same : (t now b : ℕ) → t ≤ now → (now < b) ⊎ (b ≤ t) → leb b t ≡ leb b now
leb-same t now b le (inl h) = lt-leb b t (omega arith) ∙ sym (lt-leb b now h)
leb-same t now b le (inr h) = le-leb b t h ∙ sym (le-leb b now (omega arith))

-- an end or a beginning lies between the moments, or nothing changes
abbrev pub Turns : ℕ → ℕ → Row → Type 0
Turns t now r = ((t < r.over) × (r.over ≤ now)) ⊎ ((b : ℕ) × (r.begun ≡ Some b) × (t < b) × (b ≤ now))

pub between : (t now o : ℕ) → ((t < o) × (o ≤ now)) ⊎ ((now < o) ⊎ (o ≤ t))
between t now o =
    elim (cases_lt t o) [
      | inl h ↦ elim (cases_lt now o) [ inl g ↦ inr (inl g) | inr g ↦ inl (h, g) ]
      | inr h ↦ inr (inr h)
    ]

begun-between : (t now : ℕ) (begun : Option ℕ) → t ≤ now → ((b : ℕ) × (begun ≡ Some b) × (t < b) × (b ≤ now)) ⊎ (is_begun_by t begun ≡ is_begun_by now begun)
begun-between t now None le = inr refl
begun-between t now (Some b) le =
    elim (between t now b) [
      | inl h ↦ inl (b, refl, h.0, h.1)
      | inr h ↦ inr (leb-same t now b le h)
    ]

pub active-same : (t now : ℕ) (r : Row) → t ≤ now → Turns t now r ⊎ (active_at t r ≡ active_at now r)
active-same t now r le =
    elim (between t now r.over) [
      | inl h ↦ inl (inl h)
      | inr h ↦ elim (begun-between t now r.begun le) [
        | inl g ↦ inl (inr g)
        | inr g ↦ inr (ap (λ x. (not r.entry.deleted && x) && is_begun_by t r.begun) (ltb-same t now r.over le h) ∙ ap (λ x. (not r.entry.deleted && ltb now r.over) && x) g)
      ]
    ]

-- the count of one place after one mark
abbrev bit : Bool → ℕ
bit b = cond b 1 0

counted-mark-at : (rows : List Row) (depths : List ℕ) (k : ℕ) (d : Row) (a : Bool) (n : ℕ) → k < length rows
    → Counted rows depths → (get_or rows k d).entry.scheduled.object.place < length depths
    → n + cond (get_or rows k d).active 1 0 ≡ get_or depths (get_or rows k d).entry.scheduled.object.place 0 + cond a 1 0
    → Counted (set rows k (with_active a (get_or rows k d))) (set depths (get_or rows k d).entry.scheduled.object.place n)
counted-mark-at rows depths k d a n in' counted placed step p lt =
    let r : Row = get_or rows k d in
    let low : p < length depths = omega (arith, lt, length-set depths r.entry.scheduled.object.place n) in
    let change : sum_by (λ x. bit (here p x)) (set rows k (with_active a r)) + bit (here p r) ≡ sum_by (λ x. bit (here p x)) rows + bit (here p (with_active a r)) =
    sum_by-set (λ x. bit (here p x)) rows k (with_active a r) d in' in
    elim (cases_eq r.entry.scheduled.object.place p) [
      | inl e ↦
          let is : eqb r.entry.scheduled.object.place p ≡ true = eq-eqb r.entry.scheduled.object.place p e in
          let one : (b : Bool) → bit (eqb r.entry.scheduled.object.place p && b) ≡ bit b = λ b. ap (λ x. bit (x && b)) is in
          let value : get_or (set depths r.entry.scheduled.object.place n) p 0 ≡ n =
          ap (λ q. get_or (set depths r.entry.scheduled.object.place n) q 0) (sym e) ∙ get_or-set_same depths r.entry.scheduled.object.place n 0 placed in
          let old : get_or depths r.entry.scheduled.object.place 0 ≡ count_by (here p) rows = ap (λ q. get_or depths q 0) e ∙ counted p low in
          omega (arith, value, old, step, change, one r.active, one a)
      | inr ne ↦
          let is : eqb r.entry.scheduled.object.place p ≡ false = ne_eqb r.entry.scheduled.object.place p ne in
          let none : (b : Bool) → bit (eqb r.entry.scheduled.object.place p && b) ≡ 0 = λ b. ap (λ x. bit (x && b)) is in
          let other : p ≢ r.entry.scheduled.object.place = λ e. ne (sym e) in
          let value : get_or (set depths r.entry.scheduled.object.place n) p 0 ≡ get_or depths p 0 = get_or-set_other depths r.entry.scheduled.object.place p n 0 other in
          omega (arith, value, counted p low, change, none r.active, none a)
    ]

-- a counter counts no more than the rows, and one less where a row isn't marked
pub counter-fits : (rows : List Row) (depths : List ℕ) (k : ℕ) (d : Row) → k < length rows → Counted rows depths
    → (get_or rows k d).entry.scheduled.object.place < length depths → (get_or rows k d).active ≡ false
    → get_or depths (get_or rows k d).entry.scheduled.object.place 0 + 1 ≤ length rows
counter-fits rows depths k d in' counted placed off =
    let r : Row = get_or rows k d in
    let p : ℕ = r.entry.scheduled.object.place in
    let change : sum_by (λ x. bit (here p x)) (set rows k (with_active true r)) + bit (here p r) ≡ sum_by (λ x. bit (here p x)) rows + bit (here p (with_active true r)) =
    sum_by-set (λ x. bit (here p x)) rows k (with_active true r) d in' in
    let is : eqb p p ≡ true = eq-eqb p p refl in
    let none : bit (here p r) ≡ 0 = ap (λ x. bit (x && r.active)) is ∙ ap bit off in
    let one : bit (here p (with_active true r)) ≡ 1 = ap (λ x. bit (x && true)) is in
    omega (arith, change, none, one, counted p placed, count_by-le-length (here p) (set rows k (with_active true r)), length-set rows k (with_active true r))

pub counted-mark : (rows : List Row) (depths new : List ℕ) (k : ℕ) (d : Row) (a : Bool) (n : ℕ) → k < length rows
    → Counted rows depths → (get_or rows k d).entry.scheduled.object.place < length depths
    → n + cond (get_or rows k d).active 1 0 ≡ get_or depths (get_or rows k d).entry.scheduled.object.place 0 + cond a 1 0
    → new ≡ set depths (get_or rows k d).entry.scheduled.object.place n
    → Counted (set rows k (with_active a (get_or rows k d))) new
counted-mark rows depths new k d a n in' counted placed step is =
    let P : List ℕ → Type 0 = Counted (set rows k (with_active a (get_or rows k d))) in
    subst P (sym is) (counted-mark-at rows depths k d a n in' counted placed step)

pub step-up : (x y : Bool) (n : ℕ) → y ≡ true → beq x y ≡ false → n + 1 + cond x 1 0 ≡ n + cond y 1 0
step-up false true n e ne = omega arith
step-up true true n e ne = cc
step-up x false n e ne = cc

pub step-down : (x y : Bool) (n : ℕ) → y ≡ false → beq x y ≡ false → 0 < n → n - 1 + cond x 1 0 ≡ n + cond y 1 0
step-down true false n e ne h = omega arith
step-down false false n e ne h = cc
step-down x true n e ne h = cc

pub off : (x y : Bool) → y ≡ true → beq x y ≡ false → x ≡ false
off false y e ne = refl
off true true e ne = cc
off true false e ne = cc

pub on : (x y : Bool) → y ≡ false → beq x y ≡ false → x ≡ true
on true y e ne = refl
on false false e ne = cc
on false true e ne = cc

-- a marked row is counted
pub counter-positive : (rows : List Row) (depths : List ℕ) (k : ℕ) (d : Row) → k < length rows → Counted rows depths
    → (get_or rows k d).entry.scheduled.object.place < length depths → (get_or rows k d).active ≡ true
    → 0 < get_or depths (get_or rows k d).entry.scheduled.object.place 0
counter-positive rows depths k d in' counted placed on' =
    let r : Row = get_or rows k d in
    let p : ℕ = r.entry.scheduled.object.place in
    let is : bit (here p r) ≡ 1 = ap (λ x. bit (x && r.active)) (eq-eqb p p refl) ∙ ap bit on' in
    omega (arith, is, counted p placed, get_or-le-sum_by (λ x. bit (here p x)) rows k d in')
