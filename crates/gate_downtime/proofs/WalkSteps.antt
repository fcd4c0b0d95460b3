-- One object's transition, row by row.
use Rattle.std.proofs.Common.{◌≡◌, ℕ, ◌≤◌, ◌<◌, Bool, true, false, cond, not, ◌&&◌, List, map, reverse, set, get_or, length, Option, refl, sym, ap, ◌∙◌, subst, arith, inl, inr, eqb, length-set, get_or-set_same, get_or-set_other}
use Rattle.std.specs.Prelude.{Some, None, is_none, nat_le, nat_lt}
use Rattle.std.proofs.lemmas.Bool.{cases_lt, cases_eq, eqb-true, ltb-true}
use Rattle.std.proofs.lemmas.List.{get_or-map, length-map, reverse-reverse, set-get_or, same_lists}
use Rattle.gate_model.specs.declared.downtime.Entry.{Entry}
use Rattle.gate_model.specs.declared.downtime.Scheduled.{Scheduled}
use Rattle.gate_model.specs.Downtime.{begins_at, or_else}
use Rattle.gate_model.specs.declared.record.Moment.{Moment}
use Rattle.gate_downtime.specs.Book.{after_transition}
use Rattle.gate_downtime.specs.declared.row.Row.{Row}
use Rattle.gate_downtime.specs.declared.links.Link.{Link}
use Rattle.gate_downtime.specs.inner.Rows.{row_entries, some-row}
use Rattle.gate_downtime.specs.inner.Links.{turned_at}
use Rattle.gate_downtime.specs.inner.Walk.{IsFlex, Waits, NewestFlex, FlexLinked, Ahead, Walked, IsCursor, cursor_size, entry_list}

-- a transition that doesn't begin an entry
turn-none : (m : Moment) (p : ℕ) (e : Entry) (b : Bool) → b ≡ false → (begins_at e.scheduled m p && not e.deleted) ≡ b → after_transition m p e ≡ e
turn-none m p e b off is = same e.transition (ap (λ x. or_else e.transition (cond x (Some m) None)) (is ∙ off) ∙ none e.transition)
  where
    none : (t : Option Moment) → or_else t None ≡ t
    none None = refl
    none (Some x) = refl

    same : (t : Option Moment) → or_else e.transition (cond (begins_at e.scheduled m p && not e.deleted) (Some m) None) ≡ e.transition → after_transition m p e ≡ e
    same t h = ap (λ (x : Option Moment). let r : Entry = record { scheduled = e.scheduled; transition = x; deleted = e.deleted } in r) h

turn-turned : (m : Moment) (p : ℕ) (e : Entry) → is_none e.transition ≡ false → after_transition m p e ≡ e
turn-turned m p e off = ap (λ (x : Option Moment). let r : Entry = record { scheduled = e.scheduled; transition = x; deleted = e.deleted } in r) (kept e.transition off)
  where
    kept : (t : Option Moment) → is_none t ≡ false → or_else t (cond (begins_at e.scheduled m p && not e.deleted) (Some m) None) ≡ t
    kept None h = cc
    kept (Some x) h = refl

-- an entry that doesn't wait doesn't begin
pub turn-other : (m : Moment) (p : ℕ) (e : Entry) → (Waits m.0 p e → ⊥) → after_transition m p e ≡ e
turn-other m p e other = by-transition e.transition refl
  where
    split : (x y z u v w : Bool) → (x ≡ false → y ≡ true → z ≡ true → v ≡ true → w ≡ true → ⊥) → ((not x && y && z && u && v) && w) ≡ false
    split true y z u v w no' = refl
    split false false z u v w no' = refl
    split false true false u v w no' = refl
    split false true true false v w no' = refl
    split false true true true false w no' = refl
    split false true true true true false no' = refl
    split false true true true true true no' = absurd (no' refl refl refl refl refl)

    not-false : (b : Bool) → not b ≡ true → b ≡ false
    not-false false h = refl
    not-false true h = cc

    by-transition : (t : Option Moment) → e.transition ≡ t → after_transition m p e ≡ e
    by-transition (Some x) is = turn-turned m p e (ap is_none is)
    by-transition None is =
        turn-none m p e false refl
        (split e.scheduled.plan.fixed (eqb e.scheduled.plan.trigger 0) (eqb e.scheduled.object.place p) (nat_le e.scheduled.plan.starts.0 m.0) (nat_lt m.0 e.scheduled.plan.ends.0) (not e.deleted)
        (λ a b c u v. other (record {
          flex = record { free = eqb-true e.scheduled.plan.trigger 0 b; flexible = a; here = eqb-true e.scheduled.object.place p c };
          unturned = is;
          kept = not-false e.deleted v;
          open' = ltb-true m.0 e.scheduled.plan.ends.0 u;
        })))

pub turn-begins : (m : Moment) (p : ℕ) (e : Entry) → ((is_none e.transition && not e.deleted) && begins_at e.scheduled m p) ≡ true → after_transition m p e ≡ turned_at m e
turn-begins m p e on = ap (λ (x : Option Moment). let r : Entry = record { scheduled = e.scheduled; transition = x; deleted = e.deleted } in r) (fresh e.transition (begins_at e.scheduled m p) (not e.deleted) on)
  where
    fresh : (t : Option Moment) (a d : Bool) → ((is_none t && d) && a) ≡ true → or_else t (cond (a && d) (Some m) None) ≡ Some m
    fresh None true true h = refl
    fresh None false true h = cc
    fresh None a false h = cc
    fresh (Some x) a d h = cc

pub turn-idle : (m : Moment) (p : ℕ) (e : Entry) → ((is_none e.transition && not e.deleted) && begins_at e.scheduled m p) ≡ false → after_transition m p e ≡ e
turn-idle m p e off = ap (λ (x : Option Moment). let r : Entry = record { scheduled = e.scheduled; transition = x; deleted = e.deleted } in r) (kept e.transition (begins_at e.scheduled m p) (not e.deleted) off)
  where
    kept : (t : Option Moment) (a d : Bool) → ((is_none t && d) && a) ≡ false → or_else t (cond (a && d) (Some m) None) ≡ t
    kept (Some x) a d h = refl
    kept None false d h = refl
    kept None true false h = refl
    kept None true true h = cc

pub walk-step : (m : Moment) (p : ℕ) (before rows rows' : List Row) (c : ℕ) (o : Option ℕ) → Walked m p before rows (Some c) → NewestFlex m.0 before p c o → length rows' ≡ length rows
    → ((j : ℕ) (d : Row) → j < length rows → (j ≡ c → ⊥) → (get_or rows' j d).entry ≡ (get_or rows j d).entry) → ((d : Row) → (get_or rows' c d).entry ≡ after_transition m p (get_or rows c d).entry)
    → Walked m p before rows' o
walk-step m p before rows rows' c o w n len others here = record {
  len = len ∙ w.len;
  cursor_in = cursor o n;
  ahead = λ j d lt a.
      let less : j < c = after o n j a in
      others j d (omega (arith, lt, w.len)) (λ e. omega (arith, e, less)) ∙ w.ahead j d lt (omega (arith, less));
  done = λ j d lt no'.
      elim (cases_eq j c) [
        | inl same ↦
            let P : ℕ → Type 0 = λ i. (get_or rows' i d).entry ≡ after_transition m p (get_or before i d).entry in
            let at : (get_or rows c d).entry ≡ (get_or before c d).entry = w.ahead c d w.cursor_in.0 (omega arith) in
            subst P (sym same) (here d ∙ ap (after_transition m p) at)
        | inr ne ↦
            others j d (omega (arith, lt, w.len)) ne
            ∙ (elim (cases_lt c j) [
              | inl more ↦ w.done j d lt (λ a. omega (arith, a, more))
              | inr upto ↦
                  let less : j < c = omega (arith, upto, ne) in
                  w.ahead j d lt upto ∙ sym (turn-other m p _ (λ waits. no' (still o n j d less waits)))
            ])
      ];
}
  where
    cursor : (o : Option ℕ) → NewestFlex m.0 before p c o → IsCursor before p o
    cursor None n = tt
    cursor (Some f) n = (let lt : f < length before = omega (arith, n.0, w.cursor_in.0) in lt, n.1)

    after : (o : Option ℕ) → NewestFlex m.0 before p c o → (j : ℕ) → Ahead o j → j < c
    after None n j a = absurd a
    after (Some f) n j a = omega (arith, a, n.0)

    still : (o : Option ℕ) → NewestFlex m.0 before p c o → (j : ℕ) (d : Row) → j < c → Waits m.0 p (get_or before j d).entry → Ahead o j
    still None n j d lt waits = absurd (n j d lt waits)
    still (Some f) n j d lt waits = elim (cases_lt f j) [ inl after ↦ absurd (n.2 j d after lt waits) | inr upto ↦ upto ]

pub walk-end : (m : Moment) (p : ℕ) (before rows : List Row) → Walked m p before rows None → entry_list rows ≡ map (after_transition m p) (entry_list before)
walk-end m p before rows w =
    same_lists (entry_list rows) (map (after_transition m p) (entry_list before))
    (length-map rows (λ (r : Row). r.entry) ∙ w.len ∙ sym (length-map before (λ (r : Row). r.entry)) ∙ sym (length-map (entry_list before) (after_transition m p)))
    (λ k d lt.
    let there : k < length rows = omega (arith, lt, length-map rows (λ (r : Row). r.entry)) in
    let low : k < length before = omega (arith, there, w.len) in
    let long : k < length (entry_list before) = omega (arith, low, length-map before (λ (r : Row). r.entry)) in
    get_or-map (λ (r : Row). r.entry) rows k (blank d) d there ∙ w.done k (blank d) low (λ a. a) ∙ ap (after_transition m p) (sym (get_or-map (λ (r : Row). r.entry) before k (blank d) d low)) ∙ sym (get_or-map (after_transition m p) (entry_list before) k d d long))
  where
    blank : Entry → Row
    blank e = record { entry = e; begun = None; over = 0; active = false; settled = false }

-- the entries in their order, and back
pub list-from-reverse : (rows : List Row) (xs : List Entry) → row_entries rows ≡ reverse xs → entry_list rows ≡ xs
list-from-reverse rows xs e = sym (reverse-reverse (entry_list rows)) ∙ ap reverse e ∙ reverse-reverse xs

-- one entry of a list of entries was written
pub walk-write : (m : Moment) (p : ℕ) (before rows rows' : List Row) (c : ℕ) (o : Option ℕ) → Walked m p before rows (Some c) → NewestFlex m.0 before p c o
    → ((d : Row) → entry_list rows' ≡ set (entry_list rows) c (after_transition m p (get_or rows c d).entry)) → Walked m p before rows' o
walk-write m p before rows rows' c o w n is =
    walk-step m p before rows rows' c o w n len
    (λ j d lt ne.
    let there : j < length rows' = omega (arith, lt, len) in
    sym (get_or-map (λ (r : Row). r.entry) rows' j d d.entry there) ∙ ap (λ l. get_or l j d.entry) (is d) ∙ get_or-set_other (entry_list rows) c j (after_transition m p (get_or rows c d).entry) d.entry ne ∙ get_or-map (λ (r : Row). r.entry) rows j d d.entry lt)
    (λ d.
    let low : c < length rows = omega (arith, w.cursor_in.0, w.len) in
    let there : c < length rows' = omega (arith, low, len) in
    let long : c < length (entry_list rows) = omega (arith, low, length-map rows (λ (r : Row). r.entry)) in
    sym (get_or-map (λ (r : Row). r.entry) rows' c d d.entry there) ∙ ap (λ l. get_or l c d.entry) (is d) ∙ get_or-set_same (entry_list rows) c (after_transition m p (get_or rows c d).entry) d.entry long)
  where
    len : length rows' ≡ length rows
    len =
        let blank : Row = some-row in
        sym (length-map rows' (λ (r : Row). r.entry)) ∙ ap length (is blank) ∙ length-set (entry_list rows) c (after_transition m p (get_or rows c blank).entry) ∙ length-map rows (λ (r : Row). r.entry)

-- a write that changes nothing
pub write-same : (m : Moment) (p : ℕ) (rows : List Row) (c : ℕ) (d : Row) → c < length rows → after_transition m p (get_or rows c d).entry ≡ (get_or rows c d).entry → entry_list rows ≡ set (entry_list rows) c (after_transition m p (get_or rows c d).entry)
write-same m p rows c d lt same =
    sym (ap (set (entry_list rows) c) (same ∙ sym (get_or-map (λ (r : Row). r.entry) rows c d d.entry lt)) ∙ set-get_or (entry_list rows) c d.entry)

pub next-smaller : (m : Moment) (before : List Row) (p c : ℕ) (o : Option ℕ) → NewestFlex m.0 before p c o → cursor_size o < cursor_size (Some c)
next-smaller m before p c None n = omega arith
next-smaller m before p c (Some f) n = omega (arith, n.0)

pub walk-next : (m : Moment) (p : ℕ) (before rows rows' : List Row) (links : List Link) (head o : Option ℕ) (c : ℕ) (l : Link) (d : Row) → FlexLinked m.0 before links p head → Walked m p before rows o → o ≡ Some c
    → ((e : Row) → entry_list rows' ≡ set (entry_list rows) c (after_transition m p (get_or rows c e).entry)) → Walked m p before rows' (get_or links c l).waiting
walk-next m p before rows rows' links head o c l d f w is write =
    let P : Option ℕ → Type 0 = Walked m p before rows in
    let at : Walked m p before rows (Some c) = subst P is w in
    walk-write m p before rows rows' c _ at (f.next_is c l d at.cursor_in.0 (at.cursor_in.1 d)) write

pub walk-smaller-next : (m : Moment) (p : ℕ) (before rows : List Row) (links : List Link) (head o : Option ℕ) (c : ℕ) (l : Link) (d : Row) → FlexLinked m.0 before links p head → Walked m p before rows o → o ≡ Some c
    → cursor_size (get_or links c l).waiting < cursor_size o
walk-smaller-next m p before rows links head o c l d f w is =
    let P : Option ℕ → Type 0 = Walked m p before rows in
    let Q : Option ℕ → Type 0 = λ x. cursor_size (get_or links c l).waiting < cursor_size x in
    let at : Walked m p before rows (Some c) = subst P is w in
    subst Q (sym is) (next-smaller m before p c _ (f.next_is c l d at.cursor_in.0 (at.cursor_in.1 d)))

pub walk-end-at : (m : Moment) (p : ℕ) (before rows : List Row) (o : Option ℕ) → o ≡ None → Walked m p before rows o → entry_list rows ≡ map (after_transition m p) (entry_list before)
walk-end-at m p before rows o is w =
    let P : Option ℕ → Type 0 = Walked m p before rows in
    walk-end m p before rows (subst P is w)

flex-same : (p : ℕ) (e f : Entry) → f.scheduled ≡ e.scheduled → IsFlex p e → IsFlex p f
flex-same p e f same w = record {
  free = ap (λ (s : Scheduled). s.plan.trigger) same ∙ w.free;
  flexible = ap (λ (s : Scheduled). s.plan.fixed) same ∙ w.flexible;
  here = ap (λ (s : Scheduled). s.object.place) same ∙ w.here;
}

-- the lists of the waiting rows stand where rows only stop to wait
newest-kept : (t t' p n : ℕ) (rows rows' : List Row) (o : Option ℕ) → n ≤ length rows
    → ((j : ℕ) (d : Row) → j < length rows → (get_or rows' j d).entry.scheduled ≡ (get_or rows j d).entry.scheduled)
    → ((j : ℕ) (d : Row) → j < length rows → Waits t' p (get_or rows' j d).entry → Waits t p (get_or rows j d).entry)
    → NewestFlex t rows p n o → NewestFlex t' rows' p n o
newest-kept t t' p n rows rows' None le same less none = λ j d lt w. none j d lt (less j d (omega (arith, lt, le)) w)
newest-kept t t' p n rows rows' (Some f) le same less some = (
  some.0,
  λ d. flex-same p (get_or rows f d).entry (get_or rows' f d).entry (same f d (omega (arith, some.0, le))) (some.1 d),
  λ j d after lt w. some.2 j d after lt (less j d (omega (arith, lt, le)) w),
)

pub flex-kept : (t t' p : ℕ) (rows rows' : List Row) (links : List Link) (head : Option ℕ) → length rows' ≡ length rows
    → ((j : ℕ) (d : Row) → j < length rows → (get_or rows' j d).entry.scheduled ≡ (get_or rows j d).entry.scheduled)
    → ((j : ℕ) (d : Row) → j < length rows → Waits t' p (get_or rows' j d).entry → Waits t p (get_or rows j d).entry)
    → FlexLinked t rows links p head → FlexLinked t' rows' links p head
flex-kept t t' p rows rows' links head len same less f =
    let P : ℕ → Type 0 = λ n. NewestFlex t' rows' p n head in
    record {
      head_is = subst P (sym len) (newest-kept t t' p (length rows) rows rows' head (omega arith) same less f.head_is);
      next_is = λ k l d lt flex.
          let there : k < length rows = omega (arith, lt, len) in
          newest-kept t t' p k rows rows' _ (omega (arith, there)) same less (f.next_is k l d there (flex-same p (get_or rows' k d).entry (get_or rows k d).entry (sym (same k d there)) flex));
    }
