-- A deletion, row by row, over the rows as they are.
use Rattle.std.proofs.Common.{◌≡◌, ℕ, ◌+◌, ◌-◌, ◌≤◌, ◌<◌, Bool, true, false, not, ◌&&◌, ◌||◌, List, [], ◌∷◌, ◌++◌, map, reverse, replicate, set, get_or, length, Option, refl, sym, ap, ◌∙◌, subst, arith, ◌⊎◌, inl, inr, ltb, length-set, get_or-set_same, get_or-set_other}
use Rattle.std.specs.Prelude.{Some, None, option_to_list}
use Rattle.std.proofs.lemmas.Bool.{cases_lt, cases_eq}
use Rattle.std.proofs.lemmas.List.{length-replicate, get_or-replicate, get_or_past, get_or-map, length-map, same_lists}
use Rattle.std.proofs.lemmas.List.Elements.{All-contains, Contains-push}
use Rattle.gate_model.specs.declared.record.Moment.{Moment}
use Rattle.gate_model.specs.declared.downtime.Scheduled.{Scheduled}
use Rattle.gate_model.specs.declared.downtime.Entry.{Entry}
use Rattle.gate_model.specs.Downtime.{is_live_in, is_chained, begin_by, over_by}
use Rattle.gate_downtime.specs.Book.{after_deletion}
use Rattle.gate_downtime.specs.declared.row.Row.{Row}
use Rattle.gate_downtime.specs.declared.links.Link.{Link}
use Rattle.gate_downtime.specs.inner.Rows.{row_entries, live_at, Consistent, Follows, some-row}
use Rattle.gate_downtime.specs.inner.Links.{trig, Spreading}
use Rattle.gate_downtime.specs.inner.Walk.{Waits, AllFlexLinked, entry_list}
use Rattle.gate_downtime.specs.inner.Cancel.{hit_at, IsNext, IsStruck, Struck, Deletes, HasStruck, deleted_row}
use Rattle.gate_downtime.proofs.Cached.{cached}
use Rattle.gate_downtime.proofs.LiveSteps.{live-is}
use Rattle.gate_downtime.proofs.SpreadSteps.{spread-end, linked-same, SameTriggers, Rest}
use Rattle.gate_downtime.proofs.WalkSteps.{flex-kept}
use Rattle.gate_downtime.proofs.DeleteSteps.{pass-step, hit-step, delete-start, delete-end}
use Rattle.gate_downtime.proofs.ChainSteps.{is_chained-is}
use Rattle.gate_downtime.proofs.BookSteps.{reverse-map}

-- ---- what was hit

length-deleted : (rows rows' : List Row) (k : ℕ) (d : Row) → ((e : Row) → rows' ≡ set rows k (deleted_row (get_or rows k e))) → length rows' ≡ length rows
length-deleted rows rows' k d is = ap length (is d) ∙ length-set rows k (deleted_row (get_or rows k d))

struck-row : (old new : Row) (h : Bool) → IsStruck old h new → IsStruck old true (deleted_row new)
struck-row old new h w = record {
  entry =
      ap (λ (s : Scheduled). let e : Entry = record { scheduled = s; transition = new.entry.transition; deleted = true } in e) (ap (λ (e : Entry). e.scheduled) w.entry)
      ∙ ap (λ (t : Option Moment). let e : Entry = record { scheduled = old.entry.scheduled; transition = t; deleted = true } in e) (ap (λ (e : Entry). e.transition) w.entry)
      ∙ ap (λ (b : Bool). let e : Entry = record { scheduled = old.entry.scheduled; transition = old.entry.transition; deleted = b } in e) (or-true old.entry.deleted);
  begun = w.begun;
  over = w.over;
  settled = w.settled;
}
  where
    or-true : (b : Bool) → true ≡ (b || true)
    or-true true = refl
    or-true false = refl

struck-set : (before rows rows' : List Row) (hit : List Bool) (c : ℕ) → Struck before rows hit → c < length before → length hit ≡ length before → ((e : Row) → rows' ≡ set rows c (deleted_row (get_or rows c e))) → Struck before rows' (set hit c true)
struck-set before rows rows' hit c s in' long is = record {
  len = length-deleted rows rows' c some-row is ∙ s.len;
  each = λ j e lt.
      let v : Row = deleted_row (get_or rows c e) in
      let P : List Row → Type 0 = λ xs. IsStruck (get_or before j e) (hit_at (set hit c true) j) (get_or xs j e) in
      subst P (sym (is e))
      (elim (cases_eq j c) [
        | inl same ↦
            let Q : ℕ → Type 0 = λ i. IsStruck (get_or before i e) (hit_at (set hit c true) i) (get_or (set rows c v) i e) in
            let R : Row → Type 0 = λ x. IsStruck (get_or before c e) (hit_at (set hit c true) c) x in
            let S : Bool → Type 0 = λ b. IsStruck (get_or before c e) b v in
            subst Q (sym same)
            (subst R (sym (get_or-set_same rows c v e (omega (arith, in', s.len))))
            (subst S (sym (get_or-set_same hit c true false (omega (arith, in', long)))) (struck-row (get_or before c e) (get_or rows c e) (hit_at hit c) (s.each c e in'))))
        | inr ne ↦
            let R : Row → Type 0 = λ x. IsStruck (get_or before j e) (hit_at (set hit c true) j) x in
            let S : Bool → Type 0 = λ b. IsStruck (get_or before j e) b (get_or rows j e) in
            subst R (sym (get_or-set_other rows c j v e ne)) (subst S (sym (get_or-set_other hit c j true false ne)) (s.each j e lt))
      ]);
}

pub live-struck : (t : ℕ) (old new : Row) (h : Bool) → IsStruck old h new → live_at t new ≡ (not (old.entry.deleted || h) && ltb t old.over)
live-struck t old new h w = ap (λ (e : Entry). not e.deleted && ltb t new.over) w.entry ∙ ap (λ o. not (old.entry.deleted || h) && ltb t o) w.over

pass-bit : (del h o : Bool) → (not (del || h) && o) ≡ false → (h ≡ true → (not del && o) ≡ true) → (b : Bool) × ((not del && o) ≡ b) × (h ≡ b)
pass-bit del true o off sure = (true, sure refl, refl)
pass-bit true false o off sure = (false, refl, refl)
pass-bit false false o off sure = (false, off, refl)

hit-bit : (del h o : Bool) → (not (del || h) && o) ≡ true → ((not del && o) ≡ true) × (h ≡ false)
hit-bit false false o on = (on, refl)
hit-bit true h o on = cc
hit-bit false true o on = cc

pub live-at : (first now : ℕ) (before : List Row) (c : ℕ) (d : Row) → Consistent first before → c < length before → live_at now (get_or before c d) ≡ is_live_in (row_entries before) now (first + c)
live-at first now before c d con in' = live-is (row_entries before) now (get_or before c d) (cached first before con c d in') ∙ ap (is_live_in (row_entries before) now) (con c d in').id_is

pub deletes-pass : (first now x : ℕ) (before rows : List Row) (links : List Link) (pending : List ℕ) (c : ℕ) (d : Row) (l : Link) → live_at now (get_or rows c d) ≡ false → Deletes first now x before rows links (pending ++ c ∷ [])
    → Deletes first now x before rows links (pending ++ option_to_list (get_or links c l).sibling)
deletes-pass first now x before rows links pending c d l off w =
    let at : IsNext first before w.hit c = All-contains (IsNext first before w.hit) _ c w.deleting.ready (Contains-push pending c) in
    let live : live_at now (get_or before c d) ≡ is_live_in (row_entries before) now (first + c) = live-at first now before c d w.consistent at.within in
    let bit : (b : Bool) × (live_at now (get_or before c d) ≡ b) × (hit_at w.hit c ≡ b) =
    pass-bit (get_or before c d).entry.deleted (hit_at w.hit c) (ltb now (get_or before c d).over) (sym (live-struck now (get_or before c d) (get_or rows c d) (hit_at w.hit c) (w.struck.each c d at.within)) ∙ off) (λ h. live ∙ w.deleting.sure c h) in
    record {
      hit = w.hit;
      consistent = w.consistent;
      struck = w.struck;
      deleting = pass-step first (is_live_in (row_entries before) now) x before links w.hit pending c d l bit.0 w.deleting (sym live ∙ bit.1) bit.2;
    }

pub deletes-hit : (first now x : ℕ) (before rows rows' : List Row) (links : List Link) (pending : List ℕ) (c : ℕ) (d : Row) (l l' : Link) → live_at now (get_or rows c d) ≡ true → ((e : Row) → rows' ≡ set rows c (deleted_row (get_or rows c e)))
    → Deletes first now x before rows links (pending ++ c ∷ []) → Deletes first now x before rows' links (Rest pending (get_or links c l).sibling (get_or links c l').child)
deletes-hit first now x before rows rows' links pending c d l l' on is w =
    let at : IsNext first before w.hit c = All-contains (IsNext first before w.hit) _ c w.deleting.ready (Contains-push pending c) in
    let live : live_at now (get_or before c d) ≡ is_live_in (row_entries before) now (first + c) = live-at first now before c d w.consistent at.within in
    let bit : (live_at now (get_or before c d) ≡ true) × (hit_at w.hit c ≡ false) =
    hit-bit (get_or before c d).entry.deleted (hit_at w.hit c) (ltb now (get_or before c d).over) (sym (live-struck now (get_or before c d) (get_or rows c d) (hit_at w.hit c) (w.struck.each c d at.within)) ∙ on) in
    record {
      hit = set w.hit c true;
      consistent = w.consistent;
      struck = struck-set before rows rows' w.hit c w.struck at.within w.deleting.len is;
      deleting = hit-step first (is_live_in (row_entries before) now) x before links w.hit pending c d l l' w.deleting (sym live ∙ bit.0) bit.1;
    }

-- ---- the first row, and the end

struck-none : (before : List Row) → Struck before before (replicate (length before) false)
struck-none before = record {
  len = refl;
  each = λ j d lt. record {
    entry =
        ap (λ (b : Bool). let e : Entry = record { scheduled = (get_or before j d).entry.scheduled; transition = (get_or before j d).entry.transition; deleted = b } in e)
        (or-false (get_or before j d).entry.deleted ∙ ap (λ h. (get_or before j d).entry.deleted || h) (sym (get_or-replicate (length before) j false false lt)));
    begun = refl;
    over = refl;
    settled = refl;
  };
}
  where
    or-false : (b : Bool) → b ≡ (b || false)
    or-false true = refl
    or-false false = refl

none-hit : (n j : ℕ) → hit_at (replicate n false) j ≡ false
none-hit n j =
    elim (cases_lt j n) [
      | inl in' ↦ get_or-replicate n j false false in'
      | inr out ↦ get_or_past (replicate n false) j false (omega (arith, out, length-replicate n false))
    ]

pub deletes-start : (first now : ℕ) (before rows' : List Row) (links : List Link) (c : ℕ) (d : Row) (l : Link) → Spreading first before links [] → c < length before → live_at now (get_or before c d) ≡ true
    → ((e : Row) → rows' ≡ set before c (deleted_row (get_or before c e))) → Deletes first now (first + c) before rows' links (option_to_list (get_or links c l).child)
deletes-start first now before rows' links c d l s in' on is =
    let con : Consistent first before = spread-end first before links s in
    record {
      hit = set (replicate (length before) false) c true;
      consistent = con;
      struck = struck-set before before rows' (replicate (length before) false) c (struck-none before) in' (length-replicate (length before) false) is;
      deleting = delete-start first (is_live_in (row_entries before) now) before links (replicate (length before) false) c l s.from (length-replicate (length before) false) s.placed s.linked in'
          (sym (live-at first now before c d con in') ∙ on) (none-hit (length before));
    }

pub deletes-end : (first now x : ℕ) (before rows : List Row) (links : List Link) → Deletes first now x before rows links []
    → row_entries rows ≡ map (after_deletion (is_chained (is_live_in (row_entries before) now) (row_entries before) x)) (row_entries before)
deletes-end first now x before rows links w = ap reverse lists ∙ reverse-map (after_deletion hit) (entry_list before)
  where
    live : ℕ → Bool
    live = is_live_in (row_entries before) now

    hit : ℕ → Bool
    hit = is_chained (is_live_in (row_entries before) now) (row_entries before) x

    entry-is : (j : ℕ) (d : Row) → j < length before → (get_or rows j d).entry ≡ after_deletion hit (get_or before j d).entry
    entry-is j d lt =
        (w.struck.each j d lt).entry
        ∙ ap (λ (b : Bool). let e : Entry = record { scheduled = (get_or before j d).entry.scheduled; transition = (get_or before j d).entry.transition; deleted = (get_or before j d).entry.deleted || b } in e)
        (sym (is_chained-is first live x before (hit_at w.hit) w.deleting.from w.deleting.placed (delete-end first live x before links w.hit w.deleting) j d lt) ∙ ap hit (sym (w.deleting.placed j d lt).id_is))

    lists : entry_list rows ≡ map (after_deletion hit) (entry_list before)
    lists =
        same_lists (entry_list rows) (map (after_deletion hit) (entry_list before))
        (length-map rows (λ (r : Row). r.entry) ∙ w.struck.len ∙ sym (length-map before (λ (r : Row). r.entry)) ∙ sym (length-map (entry_list before) (after_deletion hit)))
        (λ k d lt.
        let there : k < length rows = omega (arith, lt, length-map rows (λ (r : Row). r.entry)) in
        let low : k < length before = omega (arith, there, w.struck.len) in
        let long : k < length (entry_list before) = omega (arith, low, length-map before (λ (r : Row). r.entry)) in
        get_or-map (λ (r : Row). r.entry) rows k some-row d there ∙ entry-is k some-row low ∙ ap (after_deletion hit) (sym (get_or-map (λ (r : Row). r.entry) before k some-row d low)) ∙ sym (get_or-map (after_deletion hit) (entry_list before) k d d long))

-- ---- what a deletion leaves

follows-struck : (x y T U : Row) (h g : Bool) → IsStruck x h y → IsStruck T g U → Follows x T.begun (Some T.over) → Follows y U.begun (Some U.over)
follows-struck x y T U h g e f w = record {
  begun_is = e.begun ∙ w.begun_is ∙ ap (begin_by x.entry) (sym f.begun) ∙ ap (λ en. begin_by en U.begun) (sym e.entry);
  over_is =
      e.over ∙ w.over_is ∙ ap (λ b. over_by x.entry b T.begun (Some T.over)) (sym e.begun) ∙ ap (λ b. over_by x.entry y.begun b (Some T.over)) (sym f.begun) ∙ ap (λ o. over_by x.entry y.begun U.begun (Some o)) (sym f.over)
      ∙ ap (λ en. over_by en y.begun U.begun (Some U.over)) (sym e.entry);
}

pub spreading-struck : (first : ℕ) (xs ys : List Row) (links : List Link) → HasStruck xs ys → Spreading first xs links [] → Spreading first ys links []
spreading-struck first xs ys links w s =
    let len : length ys ≡ length xs = w.struck.len in
    let same : (j : ℕ) (d : Row) → j < length xs → (get_or ys j d).entry.scheduled ≡ (get_or xs j d).entry.scheduled = λ j d lt. ap (λ (e : Entry). e.scheduled) (w.struck.each j d lt).entry in
    let low : (j : ℕ) (d : Row) → j < length xs → (trig (get_or xs j d) ≡ 0) ⊎ (trig (get_or xs j d) - first < length xs) = λ j d lt. elim (s.placed j d lt).linked [ inl free ↦ inl free | inr v ↦ inr (omega (arith, v.0, v.1, lt)) ] in
    record {
      from = s.from;
      placed = λ k d lt.
          let there : k < length xs = omega (arith, lt, len) in
          let P : ℕ → Type 0 = λ t. (t ≡ 0) ⊎ ((first ≤ t) × (t < first + k)) in
          record {
            id_is = ap (λ (q : Scheduled). q.id) (same k d there) ∙ (s.placed k d there).id_is;
            linked = subst P (sym (ap (λ (q : Scheduled). q.plan.trigger) (same k d there))) (s.placed k d there).linked;
          };
      linked = linked-same first xs ys links len triggers s.linked;
      chain = λ j d e lt on has.
          let there : j < length xs = omega (arith, lt, len) in
          let is : trig (get_or ys j d) ≡ trig (get_or xs j d) = ap (λ (q : Scheduled). q.plan.trigger) (same j d there) in
          let P : ℕ → Type 0 = λ x. (get_or ys (x - first) e).settled ≡ true in
          elim (low j d there) [
            | inl free ↦ absurd (has (is ∙ free))
            | inr in' ↦
                subst P (sym is)
                ((w.struck.each (trig (get_or xs j d) - first) e in').settled ∙ s.chain j d e there (sym (w.struck.each j d there).settled ∙ on) (λ z. has (is ∙ z)))
          ];
      roots = λ j d lt free flexible turned.
          let there : j < length xs = omega (arith, lt, len) in
          (w.struck.each j d there).settled
          ∙ s.roots j d there (sym (ap (λ (q : Scheduled). q.plan.trigger) (same j d there)) ∙ free) (sym (ap (λ (q : Scheduled). q.plan.fixed) (same j d there)) ∙ flexible)
          (sym (ap (λ (e : Entry). e.transition) (w.struck.each j d there).entry) ∙ turned);
      follows = λ j d lt. inl (λ e.
          let there : j < length xs = omega (arith, lt, len) in
          let is : trig (get_or ys j d) ≡ trig (get_or xs j d) = ap (λ (q : Scheduled). q.plan.trigger) (same j d there) in
          let P : ℕ → Type 0 = λ x. Follows (get_or ys j d) (get_or ys (x - first) e).begun (Some (get_or ys (x - first) e).over) in
          subst P (sym is)
          (elim (low j d there) [
            | inl free ↦
                let zero' : trig (get_or xs j d) - first < length xs = omega (arith, free, there) in
                follows-struck _ _ _ _ _ _ (w.struck.each j d there) (w.struck.each (trig (get_or xs j d) - first) e zero') ((spread-end first xs links s j d there).follows e)
            | inr in' ↦ follows-struck _ _ _ _ _ _ (w.struck.each j d there) (w.struck.each (trig (get_or xs j d) - first) e in') ((spread-end first xs links s j d there).follows e)
          ]));
      ready = λ k d lt. absurd (omega (arith, lt));
    }
  where
    triggers : SameTriggers xs ys
    triggers j d = elim (cases_lt j (length xs)) [
      | inl in' ↦ ap (λ (e : Entry). e.scheduled.plan.trigger) (w.struck.each j d in').entry
      | inr out ↦ ap trig (get_or_past ys j d (omega (arith, out, w.struck.len)) ∙ sym (get_or_past xs j d out))
    ]

pub waiting-struck : (t : ℕ) (xs ys : List Row) (links : List Link) (heads : List (Option ℕ)) → HasStruck xs ys → AllFlexLinked t xs links heads → AllFlexLinked t ys links heads
waiting-struck t xs ys links heads w all p lt =
    flex-kept t t p xs ys links (get_or heads p None) w.struck.len
    (λ j d in'. ap (λ (e : Entry). e.scheduled) (w.struck.each j d in').entry)
    (λ j d in' own.
    let P : Entry → Type 0 = Waits t p in
    let old : Waits t p (record { scheduled = (get_or xs j d).entry.scheduled; transition = (get_or xs j d).entry.transition; deleted = (get_or xs j d).entry.deleted || hit_at w.hit j }) = subst P (w.struck.each j d in').entry own in
    record {
      flex = record { free = old.flex.free; flexible = old.flex.flexible; here = old.flex.here };
      unturned = old.unturned;
      kept = first-false (get_or xs j d).entry.deleted _ old.kept;
      open' = old.open';
    })
    (all p lt)
  where
    first-false : (a b : Bool) → (a || b) ≡ false → a ≡ false
    first-false false b h = refl
    first-false true b h = h
