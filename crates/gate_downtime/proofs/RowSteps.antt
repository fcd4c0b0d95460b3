-- What a book keeps of its rows: after a row more, and where only marks changed.
use Rattle.std.proofs.Common.{◌≡◌, ℕ, ◌+◌, ◌-◌, ◌≤◌, ◌<◌, Bool, true, false, cond, not, List, [], ◌∷◌, ◌++◌, map, get_or, length, Option, refl, sym, ap, ◌∙◌, subst, arith, inl, inr}
use Rattle.std.specs.Prelude.{Some, None, count_by}
use Rattle.std.proofs.lemmas.Bool.{cases_lt, eq-eqb, ne_eqb}
use Rattle.std.proofs.lemmas.List.{get_or_append_left, get_or_past, get_or-map, length-map}
use Rattle.std.proofs.lemmas.List.Sums.{sum_by_push}
use Rattle.gate_model.specs.declared.record.Moment.{Moment}
use Rattle.gate_model.specs.declared.downtime.Entry.{Entry}
use Rattle.gate_model.specs.Downtime.{or_else}
use Rattle.gate_downtime.specs.Book.{after_transition}
use Rattle.gate_downtime.specs.declared.row.Row.{Row}
use Rattle.gate_downtime.specs.declared.links.Link.{Link}
use Rattle.gate_downtime.specs.declared.scheduling.Trigger.{Trigger}
use Rattle.gate_downtime.specs.inner.Rows.{with_active, SameButMarks, Follows, Local, Consistent, is_unsettled}
use Rattle.gate_downtime.specs.inner.Links.{trig, Linked, IsRoot, Spreading}
use Rattle.gate_downtime.specs.inner.Walk.{Waits, FlexLinked, AllFlexLinked, entry_list}
use Rattle.gate_downtime.specs.inner.Scheduling.{IsTrigger, settled_by}
use Rattle.gate_downtime.proofs.Fresh.{push-cases, local-push}
use Rattle.gate_downtime.proofs.Unmarked.{length-same, row-same, consistent-same}
use Rattle.gate_downtime.proofs.SpreadSteps.{spread-end, follows-free, SameTriggers, linked-same}
use Rattle.gate_downtime.proofs.WalkSteps.{flex-kept}

-- what the rows keep of each other depends on no mark
pub spreading-same : (first : ℕ) (xs ys : List Row) (links : List Link) → SameButMarks xs ys → Spreading first xs links [] → Spreading first ys links []
spreading-same first xs ys links same s =
    let len : length ys ≡ length xs = length-same xs ys same in
    let con : Consistent first ys = consistent-same first xs ys same (spread-end first xs links s) in
    record {
      from = s.from;
      placed = λ k d lt. record { id_is = (con k d lt).id_is; linked = (con k d lt).linked };
      linked = linked-same first xs ys links len triggers s.linked;
      chain = λ j d e lt on has.
          let there : j < length xs = omega (arith, lt, len) in
          let row : with_active true (get_or ys j d) ≡ with_active true (get_or xs j d) = row-same xs ys same j d there in
          let is : trig (get_or ys j d) ≡ trig (get_or xs j d) = ap trig row in
          let low : trig (get_or xs j d) - first < length xs = elim (s.placed j d there).linked [ inl free ↦ absurd (has (is ∙ free)) | inr w ↦ omega (arith, w.0, w.1, there) ] in
          let P : ℕ → Type 0 = λ x. (get_or ys (x - first) e).settled ≡ true in
          subst P (sym is)
          (ap (λ (r : Row). r.settled) (row-same xs ys same (trig (get_or xs j d) - first) e low)
          ∙ s.chain j d e there (sym (ap (λ (r : Row). r.settled) row) ∙ on) (λ z. has (is ∙ z)));
      roots = λ j d lt free flexible turned.
          let there : j < length xs = omega (arith, lt, len) in
          let row : with_active true (get_or ys j d) ≡ with_active true (get_or xs j d) = row-same xs ys same j d there in
          ap (λ (r : Row). r.settled) row
          ∙ s.roots j d there (sym (ap trig row) ∙ free) (sym (ap (λ (r : Row). r.entry.scheduled.plan.fixed) row) ∙ flexible) (sym (ap (λ (r : Row). r.entry.transition) row) ∙ turned);
      follows = λ j d lt. inl (con j d lt).follows;
      ready = λ k d lt. absurd (omega (arith, lt));
    }
  where
    triggers : SameTriggers xs ys
    triggers j d = elim (cases_lt j (length xs)) [
      | inl in' ↦ ap trig (row-same xs ys same j d in')
      | inr out ↦ ap trig (get_or_past ys j d (omega (arith, out, length-same xs ys same)) ∙ sym (get_or_past xs j d out))
    ]

pub waiting-same : (t t' : ℕ) (xs ys : List Row) (links : List Link) (heads : List (Option ℕ)) → t ≤ t' → SameButMarks xs ys → AllFlexLinked t xs links heads → AllFlexLinked t' ys links heads
waiting-same t t' xs ys links heads le same all p lt =
    flex-kept t t' p xs ys links (get_or heads p None) (length-same xs ys same)
    (λ j d in'. ap (λ (r : Row). r.entry.scheduled) (row-same xs ys same j d in'))
    (λ j d in' w.
    let P : Entry → Type 0 = Waits t' p in
    let own : Waits t' p (get_or xs j d).entry = subst P (ap (λ (r : Row). r.entry) (row-same xs ys same j d in')) w in
    let open' : t' < (get_or xs j d).entry.scheduled.plan.ends.0 = own.open' in
    record { flex = own.flex; unturned = own.unturned; kept = own.kept; open' = omega (arith, open', le) })
    (all p lt)

pub unsettled-push : (rows : List Row) (r : Row) → count_by is_unsettled (rows ++ r ∷ []) ≡ count_by is_unsettled rows + cond (is_unsettled r) 1 0
unsettled-push rows r = sum_by_push (λ x. cond (is_unsettled x) 1 0) rows r

pub unsettled-push-le : (rows : List Row) (r : Row) → count_by is_unsettled (rows ++ r ∷ []) ≤ count_by is_unsettled rows + 1
unsettled-push-le rows r = split r.settled (unsettled-push rows r)
  where
    split : (b : Bool) {n : ℕ} → n ≡ count_by is_unsettled rows + cond (not b) 1 0 → n ≤ count_by is_unsettled rows + 1
    split true e = omega (arith, e)
    split false e = omega (arith, e)

consistent-push : (first : ℕ) (rows : List Row) (r : Row) (found : Trigger) → Consistent first rows → r.entry.scheduled.id ≡ first + length rows → IsTrigger first rows (trig r) found
    → Follows r found.begun (Some found.over) → Consistent first (rows ++ r ∷ [])
consistent-push first rows r found con id trigger f =
    push-cases rows r (λ k x. Local first (rows ++ r ∷ []) k x) (λ k d lt. local-push first rows r k (get_or rows k d) lt (con k d lt)) (record {
      id_is = id;
      linked = elim trigger [ inl free ↦ inl free.0 | inr w ↦ inr (w.low, w.high) ];
      follows = λ e. elim trigger [
        | inl free ↦ follows-free r found.begun _ (Some found.over) _ free.0 f
        | inr w ↦
            let low : trig r - first < length rows = omega (arith, w.low, w.high) in
            let P : Row → Type 0 = λ T. Follows r T.begun (Some T.over) in
            let Q : Option ℕ → Type 0 = λ b. Follows r b (Some found.over) in
            let R : ℕ → Type 0 = λ o. Follows r (get_or rows (trig r - first) e).begun (Some o) in
            subst P (sym (get_or_append_left rows (r ∷ []) e (trig r - first) low)) (subst R (w.over e) (subst Q (w.begun e) f))
      ];
    })

-- one more row, whose beginning and end follow from its trigger's row
pub spreading-push : (first : ℕ) (rows : List Row) (r : Row) (links links' : List Link) (found : Trigger) → Spreading first rows links [] → r.entry.scheduled.id ≡ first + length rows → IsTrigger first rows (trig r) found
    → Follows r found.begun (Some found.over) → r.settled ≡ settled_by r.entry.scheduled found → Linked first (rows ++ r ∷ []) links' → Spreading first (rows ++ r ∷ []) links' []
spreading-push first rows r links links' found s id trigger f settled linked =
    let con : Consistent first (rows ++ r ∷ []) = consistent-push first rows r found (spread-end first rows links s) id trigger f in
    record {
      from = s.from;
      placed = λ k d lt. record { id_is = (con k d lt).id_is; linked = (con k d lt).linked };
      linked = linked;
      chain = λ j d e lt.
          push-cases rows r (λ j x. x.settled ≡ true → (trig x ≡ 0 → ⊥) → (get_or (rows ++ r ∷ []) (trig x - first) e).settled ≡ true)
          (λ j d in' on has.
          let low : trig (get_or rows j d) - first < length rows = elim (s.placed j d in').linked [ inl free ↦ absurd (has free) | inr w ↦ omega (arith, w.0, w.1, in') ] in
          ap (λ (x : Row). x.settled) (get_or_append_left rows (r ∷ []) e (trig (get_or rows j d) - first) low) ∙ s.chain j d e in' on has)
          (λ on has. elim trigger [
            | inl free ↦ absurd (has free.0)
            | inr w ↦
                let low : trig r - first < length rows = omega (arith, w.low, w.high) in
                let by : settled_by r.entry.scheduled found ≡ found.settled = ap (λ b. cond b r.entry.scheduled.plan.fixed found.settled) (ne_eqb (trig r) 0 has) in
                ap (λ (x : Row). x.settled) (get_or_append_left rows (r ∷ []) e (trig r - first) low) ∙ sym (w.settled e) ∙ sym by ∙ sym settled ∙ on
          ]) j d lt;
      roots =
          push-cases rows r (λ j x. IsRoot x) (λ j d in'. s.roots j d in')
          (λ free flexible turned. settled ∙ ap (λ b. cond b r.entry.scheduled.plan.fixed found.settled) (eq-eqb (trig r) 0 free) ∙ flexible);
      follows = λ j d lt. inl (con j d lt).follows;
      ready = λ k d lt. absurd (omega (arith, lt));
    }

-- after a transition, which leaves what was scheduled
pub length-turned : (m : Moment) (place : ℕ) (xs ys : List Row) → entry_list ys ≡ map (after_transition m place) (entry_list xs) → length ys ≡ length xs
length-turned m place xs ys is =
    sym (length-map ys (λ (r : Row). r.entry)) ∙ ap length is ∙ length-map (entry_list xs) (after_transition m place) ∙ length-map xs (λ (r : Row). r.entry)

pub turned-at : (m : Moment) (place : ℕ) (xs ys : List Row) → entry_list ys ≡ map (after_transition m place) (entry_list xs)
    → (j : ℕ) (d : Row) → j < length xs → (get_or ys j d).entry ≡ after_transition m place (get_or xs j d).entry
turned-at m place xs ys is j d lt =
    let there : j < length ys = omega (arith, lt, length-turned m place xs ys is) in
    let long : j < length (entry_list xs) = omega (arith, lt, length-map xs (λ (r : Row). r.entry)) in
    sym (get_or-map (λ (r : Row). r.entry) ys j d d.entry there) ∙ ap (λ l. get_or l j d.entry) is ∙ get_or-map (after_transition m place) (entry_list xs) j d.entry d.entry long
    ∙ ap (after_transition m place) (get_or-map (λ (r : Row). r.entry) xs j d d.entry lt)

pub waiting-turned : (m : Moment) (place : ℕ) (xs ys : List Row) (links : List Link) (heads : List (Option ℕ)) → entry_list ys ≡ map (after_transition m place) (entry_list xs) → AllFlexLinked m.0 xs links heads → AllFlexLinked m.0 ys links heads
waiting-turned m place xs ys links heads is all p lt =
    flex-kept m.0 m.0 p xs ys links (get_or heads p None) (length-turned m place xs ys is)
    (λ j d in'. ap (λ (e : Entry). e.scheduled) (turned-at m place xs ys is j d in'))
    (λ j d in' w.
    let P : Entry → Type 0 = Waits m.0 p in
    let own : Waits m.0 p (after_transition m place (get_or xs j d).entry) = subst P (turned-at m place xs ys is j d in') w in
    record {
      flex = record { free = own.flex.free; flexible = own.flex.flexible; here = own.flex.here };
      unturned = first-none (get_or xs j d).entry.transition _ own.unturned;
      kept = own.kept;
      open' = own.open';
    })
    (all p lt)
  where
    first-none : (t x : Option Moment) → or_else t x ≡ None → t ≡ None
    first-none None x h = refl
    first-none (Some y) x h = cc

-- no rows
pub spreading-none : (first : ℕ) → 0 < first → Spreading first [] [] []
spreading-none first from = record {
  from = from;
  placed = λ k d lt. absurd (omega (arith, lt));
  linked = record { len = refl; child = λ k m lt. absurd (omega (arith, lt)); sibling = λ k m d lt. absurd (omega (arith, lt)) };
  chain = λ j d e lt. absurd (omega (arith, lt));
  roots = λ j d lt. absurd (omega (arith, lt));
  follows = λ j d lt. absurd (omega (arith, lt));
  ready = λ k d lt. absurd (omega (arith, lt));
}

pub waiting-none : (t : ℕ) (links : List Link) (heads : List (Option ℕ)) → ((p : ℕ) → p < length heads → get_or heads p None ≡ None) → AllFlexLinked t [] links heads
waiting-none t links heads none p lt =
    let P : Option ℕ → Type 0 = FlexLinked t [] links p in
    subst P (sym (none p lt)) (record {
      head_is = λ j d lt. absurd (omega (arith, lt));
      next_is = λ k l d lt. absurd (omega (arith, lt));
    })
