-- Rows that follow from their triggers' keep what the definitions say, and so the marks count to the depth.
use Rattle.std.proofs.Common.{◌≡◌, ℕ, zero, suc, ◌+◌, ◌-◌, ◌≤◌, ◌<◌, true, false, cond, not, ◌&&◌, List, [], ◌∷◌, ◌++◌, map, take, reverse, get_or, length, Option, refl, sym, ap, ◌∙◌, subst, arith, ◌⊎◌, inl, inr, eqb, ltb, add-one, ◌||◌}
use Rattle.std.specs.Prelude.{Some, None, All, count_by, min, is_some, unwrap_or}
use Rattle.std.specs.List.{sum_by}
use Rattle.std.proofs.lemmas.Bool.{cases_eq, eq-eqb, ne_eqb}
use Rattle.std.proofs.lemmas.List.{take_more, map_push, reverse-append, take_all}
use Rattle.std.proofs.lemmas.List.Sums.{sum_by-cons}
use Rattle.std.proofs.lemmas.List.Sorted.{sum_by-IsPermutation, IsPermutation-reverse}
use Rattle.std.proofs.lemmas.List.Elements.{All-head, All-tail}
use Rattle.gate_model.specs.declared.downtime.Entry.{Entry}
use Rattle.gate_model.specs.Downtime.{begin_in, over_in, begin_by, over_by, begin_with, begin_alone, over_unbegun, is_deleted_in, is_active_in, is_before, is_begun_by, depth_in}
use Rattle.gate_model.proofs.DowntimeSteps.{begin_in-other, over_in-other}
use Rattle.gate_downtime.specs.declared.row.Row.{Row}
use Rattle.gate_downtime.specs.inner.Rows.{row_entries, active_at, here, IsCached, Follows, Local, Consistent, Marked}

pub entries-push : (rows : List Row) (r : Row) → row_entries (rows ++ r ∷ []) ≡ r.entry ∷ row_entries rows
entries-push rows r = ap reverse (map_push (λ (r : Row). r.entry) rows r) ∙ reverse-append (map (λ (r : Row). r.entry) rows) (r.entry ∷ [])

pub entries-take : (rows : List Row) (n : ℕ) (d : Row) → n < length rows → row_entries (take (n + 1) rows) ≡ (get_or rows n d).entry ∷ row_entries (take n rows)
entries-take rows n d lt = ap row_entries (take_more rows n d lt) ∙ entries-push (take n rows) (get_or rows n d)

is_deleted_in-other : (e : Entry) (es : List Entry) (k : ℕ) → eqb e.scheduled.id k ≡ false → is_deleted_in (e ∷ es) k ≡ is_deleted_in es k
is_deleted_in-other e es k other = ap (λ b. cond b e.deleted (is_deleted_in es k)) other

-- one more entry, of another id, changes nothing
cached-other : (e : Entry) (es : List Entry) (r : Row) → eqb e.scheduled.id r.entry.scheduled.id ≡ false → IsCached es r → IsCached (e ∷ es) r
cached-other e es r other c = record {
  begun_is = c.begun_is ∙ sym (begin_in-other e es r.entry.scheduled.id other);
  over_is = c.over_is ∙ sym (over_in-other e es r.entry.scheduled.id other);
  deleted_is = c.deleted_is ∙ sym (is_deleted_in-other e es r.entry.scheduled.id other);
}

-- without a trigger the trigger's values don't matter
pub begin_by-free : (e : Entry) (b b' : Option ℕ) → e.scheduled.plan.trigger ≡ 0 → begin_by e b ≡ begin_by e b'
begin_by-free e b b' free =
    ap (λ v. cond v (begin_alone e) (begin_with e b)) (eq-eqb e.scheduled.plan.trigger 0 free)
    ∙ sym (ap (λ v. cond v (begin_alone e) (begin_with e b')) (eq-eqb e.scheduled.plan.trigger 0 free))

pub over_by-free : (e : Entry) (begun b b' o o' : Option ℕ) → e.scheduled.plan.trigger ≡ 0 → over_by e begun b o ≡ over_by e begun b' o'
over_by-free e (Some x) b b' o o' free = refl
over_by-free e None b b' o o' free = gone e b o free ∙ sym (gone e b' o' free)
  where
    gone : (e : Entry) (b o : Option ℕ) → e.scheduled.plan.trigger ≡ 0 → over_unbegun e b o ≡ e.scheduled.plan.ends.0
    gone e b o free =
        ap (λ v. cond (v || is_some b) e.scheduled.plan.ends.0 (cond e.scheduled.plan.fixed (min e.scheduled.plan.ends.0 (unwrap_or o 0)) (unwrap_or o 0))) (eq-eqb e.scheduled.plan.trigger 0 free)

-- the entries after a fresh one
cached-front : (es : List Entry) (r T : Row) → Follows r T.begun (Some T.over) → (r.entry.scheduled.plan.trigger ≡ 0) ⊎ ((T.entry.scheduled.id ≡ r.entry.scheduled.plan.trigger) × IsCached es T) → IsCached (r.entry ∷ es) r
cached-front es r T f from = record {
  begun_is = f.begun_is ∙ begun ∙ sym (ap (λ v. cond v (begin_by r.entry (begin_in es r.entry.scheduled.plan.trigger)) (begin_in es r.entry.scheduled.id)) self);
  over_is =
      ap Some (f.over_is ∙ over ∙ ap (λ b. over_by r.entry b (begin_in es r.entry.scheduled.plan.trigger) (over_in es r.entry.scheduled.plan.trigger)) (f.begun_is ∙ begun))
      ∙ sym (ap (λ v. cond v (Some (over_by r.entry (begin_by r.entry (begin_in es r.entry.scheduled.plan.trigger)) (begin_in es r.entry.scheduled.plan.trigger) (over_in es r.entry.scheduled.plan.trigger))) (over_in es r.entry.scheduled.id)) self);
  deleted_is = sym (ap (λ v. cond v r.entry.deleted (is_deleted_in es r.entry.scheduled.id)) self);
}
  where
    self : eqb r.entry.scheduled.id r.entry.scheduled.id ≡ true
    self = eq-eqb r.entry.scheduled.id r.entry.scheduled.id refl

    begun : begin_by r.entry T.begun ≡ begin_by r.entry (begin_in es r.entry.scheduled.plan.trigger)
    begun = elim from [
      | inl free ↦ begin_by-free r.entry T.begun (begin_in es r.entry.scheduled.plan.trigger) free
      | inr w ↦ ap (begin_by r.entry) (w.1.begun_is ∙ ap (begin_in es) w.0)
    ]

    over : over_by r.entry r.begun T.begun (Some T.over) ≡ over_by r.entry r.begun (begin_in es r.entry.scheduled.plan.trigger) (over_in es r.entry.scheduled.plan.trigger)
    over = elim from [
      | inl free ↦ over_by-free r.entry r.begun T.begun (begin_in es r.entry.scheduled.plan.trigger) (Some T.over) (over_in es r.entry.scheduled.plan.trigger) free
      | inr w ↦ ap (λ b. over_by r.entry r.begun b (Some T.over)) (w.1.begun_is ∙ ap (begin_in es) w.0) ∙ ap (over_by r.entry r.begun (begin_in es r.entry.scheduled.plan.trigger)) (w.1.over_is ∙ ap (over_in es) w.0)
    ]

cached-upto : (first : ℕ) (rows : List Row) → Consistent first rows → (n : ℕ) → n ≤ length rows → (k : ℕ) (d : Row) → k < n → IsCached (row_entries (take n rows)) (get_or rows k d)
cached-upto first rows con zero le k d lt = absurd (omega (arith, lt))
cached-upto first rows con (suc n) le k d lt =
    let P : ℕ → Type 0 = λ m. IsCached (row_entries (take m rows)) (get_or rows k d) in
    let Q : List Entry → Type 0 = λ es. IsCached es (get_or rows k d) in
    subst P (add-one n) (subst Q (sym (entries-take rows n d (omega (arith, le))))
    (elim (cases_eq k n) [
      | inl same ↦
          let R : ℕ → Type 0 = λ j. IsCached ((get_or rows n d).entry ∷ row_entries (take n rows)) (get_or rows j d) in
          let here : Local first rows n (get_or rows n d) = con n d (omega (arith, le)) in
          let t : ℕ = (get_or rows n d).entry.scheduled.plan.trigger in
          subst R (sym same) (cached-front (row_entries (take n rows)) (get_or rows n d) (get_or rows (t - first) d) (here.follows d)
          (elim here.linked [
            | inl free ↦ inl free
            | inr within ↦
                let low : t - first < n = omega (arith, within.0, within.1) in
                inr (
                  let is : (get_or rows (t - first) d).entry.scheduled.id ≡ first + (t - first) = (con (t - first) d (omega (arith, low, le))).id_is in
                      omega (arith, is, within.0),
                  cached-upto first rows con n (omega (arith, le)) (t - first) d low,
                )
          ]))
      | inr ne ↦
          let there : k < length rows = omega (arith, le, lt) in
          let less : k < n = omega (arith, lt, ne) in
          cached-other (get_or rows n d).entry (row_entries (take n rows)) (get_or rows k d)
          (ne_eqb (get_or rows n d).entry.scheduled.id (get_or rows k d).entry.scheduled.id (λ e. ne (omega (arith, e, (con n d (omega (arith, le))).id_is, (con k d there).id_is))))
          (cached-upto first rows con n (omega (arith, le)) k d less)
    ]))

pub cached : (first : ℕ) (rows : List Row) → Consistent first rows → All (IsCached (row_entries rows)) rows
cached first rows con k d lt =
    let P : List Row → Type 0 = λ xs. IsCached (row_entries xs) (get_or rows k d) in
    subst P (take_all (length rows) rows (omega arith)) (cached-upto first rows con (length rows) (omega arith) k d lt)

pub sum_by-map : {X Y : Type 0} (f : Y → ℕ) (g : X → Y) (xs : List X) → sum_by f (map g xs) ≡ sum_by (λ x. f (g x)) xs
sum_by-map f g [] = refl
sum_by-map f g (x ∷ xs) = sum_by-cons f (g x) (map g xs) ∙ ap (λ n. f (g x) + n) (sum_by-map f g xs) ∙ sym (sum_by-cons (λ x. f (g x)) x xs)

pub sum_by-ext : {X : Type 0} (f g : X → ℕ) (xs : List X) → All (λ x. f x ≡ g x) xs → sum_by f xs ≡ sum_by g xs
sum_by-ext f g [] all = refl
sum_by-ext f g (x ∷ xs) all =
    sum_by-cons f x xs ∙ ap (λ n. f x + n) (sum_by-ext f g xs (All-tail (λ x. f x ≡ g x) x xs all)) ∙ ap (λ n. n + sum_by g xs) (All-head (λ x. f x ≡ g x) x xs all) ∙ sym (sum_by-cons g x xs)

-- a row's mark is what the definitions say of its entry
mark-is : (es : List Entry) (t : ℕ) (r : Row) → IsCached es r → r.active ≡ active_at t r → is_active_in es t r.entry.scheduled.id ≡ r.active
mark-is es t r c mark =
    ap (λ x. (not x && is_before t (over_in es r.entry.scheduled.id)) && is_begun_by t (begin_in es r.entry.scheduled.id)) (sym c.deleted_is)
    ∙ ap (λ x. (not r.entry.deleted && is_before t x) && is_begun_by t (begin_in es r.entry.scheduled.id)) (sym c.over_is)
    ∙ ap (λ x. (not r.entry.deleted && ltb t r.over) && is_begun_by t x) (sym c.begun_is) ∙ sym mark

pub depth-is : (first t p : ℕ) (rows : List Row) → Consistent first rows → Marked t rows → count_by (here p) rows ≡ depth_in (row_entries rows) t p
depth-is first t p rows con marked =
    let es : List Entry = row_entries rows in
    let f : Entry → ℕ = λ (e : Entry). cond (eqb e.scheduled.object.place p && is_active_in es t e.scheduled.id) 1 0 in
    sym (sum_by-IsPermutation f (map (λ (r : Row). r.entry) rows) (reverse (map (λ (r : Row). r.entry) rows)) (IsPermutation-reverse (map (λ (r : Row). r.entry) rows))
    ∙ sum_by-map f (λ (r : Row). r.entry) rows
    ∙ sum_by-ext (λ (r : Row). f r.entry) (λ (r : Row). cond (here p r) 1 0) rows
    (λ k d lt. ap (λ x. cond (eqb (get_or rows k d).entry.scheduled.object.place p && x) 1 0) (mark-is es t (get_or rows k d) (cached first rows con k d lt) (marked k d lt))))
