-- A deletion spreads along the lists of children: the steps of its worklist, over the rows as they were and a list of what was hit.
use Rattle.std.proofs.Common.{◌≡◌, ◌≢◌, ℕ, ◌+◌, ◌-◌, ◌≤◌, ◌<◌, Bool, true, false, not, ◌&&◌, ◌||◌, List, [], ◌∷◌, ◌++◌, set, get_or, length, Option, refl, sym, ap, ◌∙◌, subst, arith, ◌⊎◌, inl, inr, eqb, length-set, get_or-set_same, get_or-set_other}
use Rattle.std.specs.Prelude.{Some, None, All, option_to_list}
use Rattle.std.proofs.lemmas.Bool.{cases_eq, eq-eqb, ne_eqb}
use Rattle.std.proofs.lemmas.List.{get_or_default, get_or_append_left, length_push}
use Rattle.std.proofs.lemmas.List.Elements.{All-append, All-push, All-contains, Contains-push}
use Rattle.gate_downtime.specs.declared.row.Row.{Row}
use Rattle.gate_downtime.specs.declared.links.Link.{Link}
use Rattle.gate_downtime.specs.inner.Links.{trig, Newest, Linked, PlacedAt}
use Rattle.gate_downtime.proofs.SpreadSteps.{cover-sibling, cover-child, cover-left, Rest}
use Rattle.gate_downtime.specs.inner.Cancel.{hit_at, HitIs, IsNext, Deleting}

and-or : (l e a b : Bool) → l ≡ true → a ≡ false → b ≡ true → true ≡ (l && (e || (not a && b)))
and-or true true a b p q r = refl
and-or true false false true p q r = refl
and-or true false false false p q r = cc
and-or true false true b p q r = cc
and-or false e a b p q r = cc

and-no : (l y : Bool) → l ≡ false → false ≡ (l && y)
and-no false y p = refl
and-no true y p = cc

next-sibling : (first : ℕ) (rows : List Row) (hit : List Bool) (c : ℕ) (d : Row) (o : Option ℕ) → Newest rows (trig (get_or rows c d)) c o → IsNext first rows hit c → All (IsNext first rows hit) (option_to_list o)
next-sibling first rows hit c d None none p = λ k x lt. absurd (omega (arith, lt))
next-sibling first rows hit c d (Some f) some p = All-push (IsNext first rows hit) [] f (λ k x lt. absurd (omega (arith, lt))) (record {
  within = omega (arith, some.0, p.within);
  triggered = λ y z. p.triggered d (sym (some.1 y) ∙ z);
  hit_is = λ y. ap (λ t. hit_at hit (t - first)) (some.1 y) ∙ p.hit_is d;
})

next-child : (first : ℕ) (rows : List Row) (hit : List Bool) (c : ℕ) (o : Option ℕ) → 0 < first → Newest rows (first + c) (length rows) o → hit_at hit c ≡ true → All (IsNext first rows hit) (option_to_list o)
next-child first rows hit c None from none p = λ k x lt. absurd (omega (arith, lt))
next-child first rows hit c (Some f) from some p = All-push (IsNext first rows hit) [] f (λ k x lt. absurd (omega (arith, lt))) (record {
  within = some.0;
  triggered = λ y z. let is : trig (get_or rows f y) ≡ first + c = some.1 y in omega (arith, is, z, from);
  hit_is = λ y.
      let is : trig (get_or rows f y) ≡ first + c = some.1 y in
      let at : trig (get_or rows f y) - first ≡ c = omega (arith, is) in
      ap (hit_at hit) at ∙ p;
})

front : (X : ℕ → Type 0) (pending : List ℕ) (c : ℕ) → All X (pending ++ c ∷ []) → All X pending
front X pending c all k x lt = subst X (get_or_append_left pending (c ∷ []) x k lt) (all k x (omega (arith, lt, length_push pending c)))

-- whether the row at c is as it has to be: its trigger is hit
row-is : (first : ℕ) (live : ℕ → Bool) (x : ℕ) (rows : List Row) (hit : List Bool) (c : ℕ) (d : Row) (b : Bool) → IsNext first rows hit c → live (first + c) ≡ b → hit_at hit c ≡ b → HitIs first live x rows (hit_at hit) c (get_or rows c d)
row-is first live x rows hit c d true at l h = h ∙ and-or (live (first + c)) (eqb (first + c) x) (eqb (trig (get_or rows c d)) 0) _ l (ne_eqb (trig (get_or rows c d)) 0 (at.triggered d)) (at.hit_is d)
row-is first live x rows hit c d false at l h = h ∙ and-no (live (first + c)) _ l

-- a row that isn't live, or was hit: only its next sibling is to come
pub pass-step : (first : ℕ) (live : ℕ → Bool) (x : ℕ) (rows : List Row) (links : List Link) (hit : List Bool) (pending : List ℕ) (c : ℕ) (d : Row) (l : Link) (b : Bool) → Deleting first live x rows links hit (pending ++ c ∷ [])
    → live (first + c) ≡ b → hit_at hit c ≡ b → Deleting first live x rows links hit (pending ++ option_to_list (get_or links c l).sibling)
pass-step first live x rows links hit pending c d l b s alive was =
    let at : IsNext first rows hit c = All-contains (IsNext first rows hit) _ c s.ready (Contains-push pending c) in
    let newest : Newest rows (trig (get_or rows c d)) c (get_or links c l).sibling = s.linked.sibling c l d at.within (at.triggered d) in
    record {
      from = s.from;
      len = s.len;
      placed = s.placed;
      linked = s.linked;
      sure = s.sure;
      hits = λ j e lt. elim (s.hits j e lt) [
        | inl h ↦ inl h
        | inr w ↦ elim (cases_eq j c) [
          | inl same ↦
              let P : ℕ → Type 0 = λ i. HitIs first live x rows (hit_at hit) i (get_or rows i e) in
              inl (subst P (sym same) (row-is first live x rows hit c e b at alive was))
          | inr ne ↦ inr (cover-sibling rows pending c d _ newest j ne w)
        ]
      ];
      ready = All-append (IsNext first rows hit) pending _ (front (IsNext first rows hit) pending c s.ready) (next-sibling first rows hit c d _ newest at);
    }

-- a write at one index changes no other
set-hit : (hit : List Bool) (c : ℕ) → c < length hit → (j : ℕ) → hit_at hit j ≡ true → hit_at (set hit c true) j ≡ true
set-hit hit c lt j was =
    elim (cases_eq j c) [
      | inl same ↦ ap (hit_at (set hit c true)) same ∙ get_or-set_same hit c true false lt
      | inr ne ↦ get_or-set_other hit c j true false ne ∙ was
    ]

kept-hit : (first : ℕ) (rows : List Row) (hit : List Bool) (c : ℕ) → c < length hit → (i : ℕ) → IsNext first rows hit i → IsNext first rows (set hit c true) i
kept-hit first rows hit c lt i p = record { within = p.within; triggered = p.triggered; hit_is = λ d. set-hit hit c lt _ (p.hit_is d) }

-- a live row that wasn't hit: it is hit now, and its children are to come
pub hit-step : (first : ℕ) (live : ℕ → Bool) (x : ℕ) (rows : List Row) (links : List Link) (hit : List Bool) (pending : List ℕ) (c : ℕ) (d : Row) (l l' : Link) → Deleting first live x rows links hit (pending ++ c ∷ [])
    → live (first + c) ≡ true → hit_at hit c ≡ false → Deleting first live x rows links (set hit c true) (Rest pending (get_or links c l).sibling (get_or links c l').child)
hit-step first live x rows links hit pending c d l l' s alive was =
    let at : IsNext first rows hit c = All-contains (IsNext first rows hit) _ c s.ready (Contains-push pending c) in
    let newest : Newest rows (trig (get_or rows c d)) c (get_or links c l).sibling = s.linked.sibling c l d at.within (at.triggered d) in
    let kids : Newest rows (first + c) (length rows) (get_or links c l').child = s.linked.child c l' at.within in
    let in' : c < length hit = omega (arith, at.within, s.len) in
    let now : hit_at (set hit c true) c ≡ true = get_or-set_same hit c true false in' in
    let sib : Option ℕ = (get_or links c l).sibling in
    let kid : Option ℕ = (get_or links c l').child in
    record {
      from = s.from;
      len = length-set hit c true ∙ s.len;
      placed = s.placed;
      linked = s.linked;
      sure = λ j h. elim (cases_eq j c) [
        | inl same ↦ ap (λ i. live (first + i)) same ∙ alive
        | inr ne ↦ s.sure j (sym (get_or-set_other hit c j true false ne) ∙ h)
      ];
      hits = λ j e lt. elim (cases_eq j c) [
        | inl same ↦
            let P : ℕ → Type 0 = λ i. HitIs first live x rows (hit_at (set hit c true)) i (get_or rows i e) in
            inl (subst P (sym same) (row-is first live x rows (set hit c true) c e true (kept-hit first rows hit c in' c at) alive now))
        | inr ne ↦ elim (s.hits j e lt) [
          | inr w ↦ inr (cover-left rows (pending ++ option_to_list sib) (option_to_list kid) j (cover-sibling rows pending c d sib newest j ne w))
          | inl h ↦ elim (cases_eq (trig (get_or rows j e)) (first + c)) [
            | inl child ↦ inr (cover-child rows (pending ++ option_to_list sib) (first + c) (length rows) e kid kids j lt (λ y. ap trig (get_or_default rows j y e lt) ∙ child))
            | inr other ↦ inl (get_or-set_other hit c j true false ne ∙ h ∙ ap (λ b. live (first + j) && (eqb (first + j) x || b)) (same-trigger (s.placed j e lt).linked other))
          ]
        ]
      ];
      ready = All-append (IsNext first rows (set hit c true)) (pending ++ option_to_list sib) _
          (All-append (IsNext first rows (set hit c true)) pending _ (λ k y lt. kept-hit first rows hit c in' _ (front (IsNext first rows hit) pending c s.ready k y lt))
          (λ k y lt. kept-hit first rows hit c in' _ (next-sibling first rows hit c d sib newest at k y lt)))
          (next-child first rows (set hit c true) c kid s.from kids now);
    }
  where
    same-trigger : {t n : ℕ} → (t ≡ 0) ⊎ ((first ≤ t) × (t < n)) → (t ≡ first + c → ⊥) → (not (eqb t 0) && hit_at hit (t - first)) ≡ (not (eqb t 0) && hit_at (set hit c true) (t - first))
    same-trigger {t} (inl free) other = ap (λ b. not b && hit_at hit (t - first)) (eq-eqb t 0 free) ∙ sym (ap (λ b. not b && hit_at (set hit c true) (t - first)) (eq-eqb t 0 free))
    same-trigger {t} (inr w) other =
        let ne : t - first ≢ c = λ q. other (omega (arith, q, w.0)) in
        ap (λ b. not (eqb t 0) && b) (sym (get_or-set_other hit c (t - first) true false ne))

-- with nothing pending each row is as it has to be
pub delete-end : (first : ℕ) (live : ℕ → Bool) (x : ℕ) (rows : List Row) (links : List Link) (hit : List Bool) → Deleting first live x rows links hit []
    → (k : ℕ) (d : Row) → k < length rows → HitIs first live x rows (hit_at hit) k (get_or rows k d)
delete-end first live x rows links hit s k d lt = elim (s.hits k d lt) [ inl h ↦ h | inr w ↦ absurd (omega (arith, w.among.1)) ]

-- the row that is deleted, live, is hit, and its children are to come
pub delete-start : (first : ℕ) (live : ℕ → Bool) (rows : List Row) (links : List Link) (hit : List Bool) (c : ℕ) (l : Link) → 0 < first → length hit ≡ length rows → ((k : ℕ) (d : Row) → k < length rows → PlacedAt first k (get_or rows k d))
    → Linked first rows links → c < length rows → live (first + c) ≡ true → ((j : ℕ) → hit_at hit j ≡ false)
    → Deleting first live (first + c) rows links (set hit c true) (option_to_list (get_or links c l).child)
delete-start first live rows links hit c l from len placed linked in' alive none =
    let kids : Newest rows (first + c) (length rows) (get_or links c l).child = linked.child c l in' in
    let low : c < length hit = omega (arith, in', len) in
    let now : hit_at (set hit c true) c ≡ true = get_or-set_same hit c true false low in
    let off : (j : ℕ) → (j ≡ c → ⊥) → hit_at (set hit c true) j ≡ false = λ j ne. get_or-set_other hit c j true false ne ∙ none j in
    record {
      from = from;
      len = length-set hit c true ∙ len;
      placed = placed;
      linked = linked;
      sure = λ j h. elim (cases_eq j c) [
        | inl same ↦ ap (λ i. live (first + i)) same ∙ alive
        | inr ne ↦ absurd (both (hit_at (set hit c true) j) h (off j ne))
      ];
      hits = λ j e lt. elim (cases_eq j c) [
        | inl same ↦
            let P : ℕ → Type 0 = λ i. HitIs first live (first + c) rows (hit_at (set hit c true)) i (get_or rows i e) in
            inl (subst P (sym same) (now ∙ self (live (first + c)) (eqb (first + c) (first + c)) _ alive (eq-eqb (first + c) (first + c) refl)))
        | inr ne ↦ elim (cases_eq (trig (get_or rows j e)) (first + c)) [
          | inl child ↦ inr (cover-child rows [] (first + c) (length rows) e _ kids j lt (λ y. ap trig (get_or_default rows j y e lt) ∙ child))
          | inr other ↦ inl (off j ne ∙ away (live (first + j)) (eqb (first + j) (first + c)) _ (ne_eqb (first + j) (first + c) (λ z. ne (omega (arith, z)))) (free (placed j e lt).linked other))
        ]
      ];
      ready = next-child first rows (set hit c true) c _ from kids now;
    }
  where
    both : (b : Bool) → b ≡ true → b ≡ false → ⊥
    both b t f = cc

    self : (a b y : Bool) → a ≡ true → b ≡ true → true ≡ (a && (b || y))
    self true true y p q = refl
    self true false y p q = cc
    self false b y p q = cc

    away : (a b y : Bool) → b ≡ false → y ≡ false → false ≡ (a && (b || y))
    away true false false p q = refl
    away true false true p q = cc
    away true true y p q = cc
    away false b y p q = refl

    no' : (b : Bool) → (b && false) ≡ false
    no' true = refl
    no' false = refl

    free : {t n : ℕ} → (t ≡ 0) ⊎ ((first ≤ t) × (t < n)) → (t ≡ first + c → ⊥) → (not (eqb t 0) && hit_at (set hit c true) (t - first)) ≡ false
    free {t} (inl z) other = ap (λ b. not b && hit_at (set hit c true) (t - first)) (eq-eqb t 0 z)
    free {t} (inr w) other =
        let ne : t - first ≢ c = λ q. other (omega (arith, q, w.0)) in
        ap (λ b. not (eqb t 0) && b) (get_or-set_other hit c (t - first) true false ne ∙ none (t - first)) ∙ no' (not (eqb t 0))
