-- Whether a chain of live entries leads from a row to the deleted one follows from its trigger's row.
use Rattle.std.proofs.Common.{◌≡◌, ℕ, zero, suc, ◌+◌, ◌-◌, ◌≤◌, ◌<◌, Bool, true, false, cond, not, ◌&&◌, ◌||◌, List, take, get_or, length, refl, sym, ap, ◌∙◌, subst, arith, inl, inr, eqb, add-one}
use Rattle.std.proofs.lemmas.Bool.{cases_eq, eq-eqb, ne_eqb}
use Rattle.std.proofs.lemmas.List.{take_all}
use Rattle.gate_model.specs.declared.downtime.Entry.{Entry}
use Rattle.gate_model.specs.Downtime.{is_chained}
use Rattle.gate_downtime.specs.declared.row.Row.{Row}
use Rattle.gate_downtime.specs.inner.Rows.{row_entries, some-row}
use Rattle.gate_downtime.specs.inner.Links.{trig, PlacedAt}
use Rattle.gate_downtime.specs.inner.Cancel.{HitIs}
use Rattle.gate_downtime.proofs.Cached.{entries-take}

is_chained-none : (first : ℕ) (live : ℕ → Bool) (x : ℕ) (rows : List Row) → 0 < first → ((k : ℕ) (d : Row) → k < length rows → PlacedAt first k (get_or rows k d)) → (n : ℕ) → n ≤ length rows → is_chained live (row_entries (take n rows)) x 0 ≡ false
is_chained-none first live x rows from placed zero le = refl
is_chained-none first live x rows from placed (suc n) le =
    let d : Row = get_or rows n (blank n) in
    let e : Entry = (get_or rows n d).entry in
    let other : eqb e.scheduled.id 0 ≡ false = ne_eqb e.scheduled.id 0 (λ z. omega (arith, z, (placed n d (omega (arith, le))).id_is, from)) in
    let P : ℕ → Type 0 = λ m. is_chained live (row_entries (take m rows)) x 0 ≡ false in
    let Q : List Entry → Type 0 = λ es. is_chained live es x 0 ≡ false in
    subst P (add-one n) (subst Q (sym (entries-take rows n d (omega (arith, le))))
    (ap (λ b. cond b (live 0 && (eqb 0 x || is_chained live (row_entries (take n rows)) x e.scheduled.plan.trigger)) (is_chained live (row_entries (take n rows)) x 0)) other
    ∙ is_chained-none first live x rows from placed n (omega (arith, le))))
  where
    blank : ℕ → Row
    blank n = some-row

pub is_chained-upto : (first : ℕ) (live : ℕ → Bool) (x : ℕ) (rows : List Row) (hit : ℕ → Bool) → 0 < first → ((k : ℕ) (d : Row) → k < length rows → PlacedAt first k (get_or rows k d))
    → ((k : ℕ) (d : Row) → k < length rows → HitIs first live x rows hit k (get_or rows k d))
    → (n : ℕ) → n ≤ length rows → (k : ℕ) (d : Row) → k < n → is_chained live (row_entries (take n rows)) x (first + k) ≡ hit k
is_chained-upto first live x rows hit from placed hits zero le k d lt = absurd (omega (arith, lt))
is_chained-upto first live x rows hit from placed hits (suc n) le k d lt =
    let e : Entry = (get_or rows n d).entry in
    let es : List Entry = row_entries (take n rows) in
    let in' : n < length rows = omega (arith, le) in
    let id : e.scheduled.id ≡ first + n = (placed n d in').id_is in
    let P : ℕ → Type 0 = λ m. is_chained live (row_entries (take m rows)) x (first + k) ≡ hit k in
    let Q : List Entry → Type 0 = λ es. is_chained live es x (first + k) ≡ hit k in
    subst P (add-one n) (subst Q (sym (entries-take rows n d in'))
    (elim (cases_eq k n) [
      | inl same ↦
          let is : eqb e.scheduled.id (first + k) ≡ true = eq-eqb e.scheduled.id (first + k) (omega (arith, id, same)) in
          let up : is_chained live es x e.scheduled.plan.trigger ≡ (not (eqb (trig (get_or rows n d)) 0) && hit (trig (get_or rows n d) - first)) =
          elim (placed n d in').linked [
            | inl free ↦ ap (is_chained live es x) free ∙ is_chained-none first live x rows from placed n (omega (arith, le)) ∙ sym (ap (λ b. not b && hit (trig (get_or rows n d) - first)) (eq-eqb (trig (get_or rows n d)) 0 free))
            | inr w ↦
                let low : trig (get_or rows n d) - first < n = omega (arith, w.0, w.1) in
                let back : trig (get_or rows n d) ≡ first + (trig (get_or rows n d) - first) = omega (arith, w.0) in
                ap (is_chained live es x) back ∙ is_chained-upto first live x rows hit from placed hits n (omega (arith, le)) (trig (get_or rows n d) - first) d low
                ∙ sym (ap (λ b. not b && hit (trig (get_or rows n d) - first)) (ne_eqb (trig (get_or rows n d)) 0 (λ z. omega (arith, z, w.0, from))))
          ] in
          ap (λ b. cond b (live (first + k) && (eqb (first + k) x || is_chained live es x e.scheduled.plan.trigger)) (is_chained live es x (first + k))) is
          ∙ ap (λ b. live (first + k) && (eqb (first + k) x || b)) up
          ∙ ap (λ j. live (first + j) && (eqb (first + j) x || (not (eqb (trig (get_or rows n d)) 0) && hit (trig (get_or rows n d) - first)))) same
          ∙ sym (hits n d in') ∙ ap hit (sym same)
      | inr ne ↦
          ap (λ b. cond b (live (first + k) && (eqb (first + k) x || is_chained live es x e.scheduled.plan.trigger)) (is_chained live es x (first + k))) (ne_eqb e.scheduled.id (first + k) (λ z. ne (omega (arith, z, id))))
          ∙ is_chained-upto first live x rows hit from placed hits n (omega (arith, le)) k d (omega (arith, lt, ne))
    ]))

pub is_chained-is : (first : ℕ) (live : ℕ → Bool) (x : ℕ) (rows : List Row) (hit : ℕ → Bool) → 0 < first → ((k : ℕ) (d : Row) → k < length rows → PlacedAt first k (get_or rows k d))
    → ((k : ℕ) (d : Row) → k < length rows → HitIs first live x rows hit k (get_or rows k d))
    → (k : ℕ) (d : Row) → k < length rows → is_chained live (row_entries rows) x (first + k) ≡ hit k
is_chained-is first live x rows hit from placed hits k d lt =
    let P : List Row → Type 0 = λ xs. is_chained live (row_entries xs) x (first + k) ≡ hit k in
    subst P (take_all (length rows) rows (omega arith)) (is_chained-upto first live x rows hit from placed hits (length rows) (omega arith) k d lt)
