-- A walk along the chains of triggers, row by row: what is pending, and how much is left.
use Rattle.std.proofs.Common.{◌≡◌, ℕ, ◌+◌, ◌*◌, ◌≤◌, ◌<◌, Bool, true, false, cond, not, ◌&&◌, List, [], ◌∷◌, ◌++◌, set, get_or, length, Option, refl, sym, ap, ◌∙◌, subst, arith, inl, inr, ltb, length-set}
use Rattle.std.specs.Prelude.{Some, None, All, count_by, vec_capacity, option_to_list}
use Rattle.std.specs.List.{sum_by}
use Rattle.std.proofs.lemmas.List.{get_or_append_left, length_push}
use Rattle.std.proofs.lemmas.List.Sums.{sum_by-set, get_or-le-sum_by, count_by-le-length}
use Rattle.std.proofs.lemmas.List.Elements.{All-append, All-push, All-contains, Contains-push}
use Rattle.gate_downtime.specs.declared.row.Row.{Row}
use Rattle.gate_downtime.specs.declared.links.Link.{Link}
use Rattle.gate_downtime.specs.declared.chains.Chains.{Chains}
use Rattle.gate_downtime.specs.declared.chains.Change.{Change}
use Rattle.gate_downtime.specs.declared.chains.Change.TheVariants.{Begin, Delete}
use Rattle.gate_downtime.specs.inner.Rows.{live_at, active_at, with_active, Follows, CanReplace, is_unsettled, some-row}
use Rattle.gate_downtime.specs.inner.Links.{trig, Newest, Linked, Spreading, Refreshes, IsWaiting, load, turned_at}
use Rattle.gate_downtime.specs.inner.Cancel.{deleted_row, is_kept, Deletes}
use Rattle.gate_downtime.specs.inner.Chains.{IsCurrent, IsReady, IsTriggered, IsPassed, IsChanged, is_open, IsChild, IsStack, IsWalking, Walks, Keeps}
use Rattle.gate_downtime.proofs.GoneSteps.{keeps-trans, adds-trans}
use Rattle.gate_downtime.proofs.SpreadSteps.{set-triggers, linked-same, placed-set, SameTriggers, Rest, sibling-less, child-less, skip-step, spread-step, entries-refreshes, root-step, waiting-unsettled}
use Rattle.gate_downtime.proofs.CancelSteps.{deletes-pass, deletes-hit, deletes-start}

-- ---- one row written

count-set : (f : Row → Bool) (rows rows' : List Row) (c : ℕ) (d v : Row) → c < length rows → rows' ≡ set rows c v → count_by f rows' + cond (f (get_or rows c d)) 1 0 ≡ count_by f rows + cond (f v) 1 0
count-set f rows rows' c d v in' is =
    let g : Row → ℕ = λ x. cond (f x) 1 0 in
    let change : sum_by g (set rows c v) + g (get_or rows c d) ≡ sum_by g rows + g v = sum_by-set g rows c v d in' in
    omega (arith, change, ap (sum_by g) is)

pub closed-count : (f : Row → Bool) (rows rows' : List Row) (c : ℕ) (d v : Row) → c < length rows → f (get_or rows c d) ≡ true → f v ≡ false → rows' ≡ set rows c v → count_by f rows' + 1 ≡ count_by f rows
closed-count f rows rows' c d v in' on off is =
    let one : ◌≡◌ {A = ℕ} (cond (f (get_or rows c d)) 1 0) 1 = ap (λ b. cond b 1 0) on in
    let none : ◌≡◌ {A = ℕ} (cond (f v) 1 0) 0 = ap (λ b. cond b 1 0) off in
    omega (arith, one, none, count-set f rows rows' c d v in' is)

pub open-positive : (f : Row → Bool) (rows : List Row) (c : ℕ) (d : Row) → c < length rows → f (get_or rows c d) ≡ true → 1 ≤ count_by f rows
open-positive f rows c d in' on =
    let one : ◌≡◌ {A = ℕ} (cond (f (get_or rows c d)) 1 0) 1 = ap (λ b. cond b 1 0) on in
    omega (arith, one, get_or-le-sum_by (λ x. cond (f x) 1 0) rows c d in')

-- at most two deadlines more for each row that is settled
pub settled-count : (rows rows' : List Row) (c : ℕ) (d v : Row) (len len' : ℕ) → c < length rows → rows' ≡ set rows c v → len' + 2 * cond (is_unsettled v) 1 0 ≤ len + 2 * cond (is_unsettled (get_or rows c d)) 1 0
    → len' + 2 * count_by is_unsettled rows' ≤ len + 2 * count_by is_unsettled rows
settled-count rows rows' c d v len len' in' is le = omega (arith, le, count-set is_unsettled rows rows' c d v in' is)

-- ---- what a step makes of a row

pub deleted-replaces : (old new : Row) → new ≡ with_active old.active (deleted_row old) → CanReplace old new
deleted-replaces old new is = record {
  scheduled = ap (λ (r : Row). r.entry.scheduled) is;
  mark = ap (λ (r : Row). r.active) is;
  settles = λ on. ap (λ (r : Row). r.settled) is ∙ on;
  moments = λ same. (ap (λ (r : Row). r.begun) is, ap (λ (r : Row). r.over) is);
}

pub changed-replaces : (change : Change) (chains : Chains) (old new : Row) → IsChanged change chains old new → CanReplace old new
changed-replaces Begin chains old new w = record {
  scheduled = ap (λ e. e.scheduled) w.entry;
  mark = w.mark;
  settles = λ on. w.settled;
  moments = λ same. absurd (cc (same, w.settled, w.before));
}
changed-replaces Delete chains old new w = deleted-replaces old new w.is

pub live-kept : (t : ℕ) (r : Row) → live_at t r ≡ true → is_kept r ≡ true
live-kept t r on = first (is_kept r) (ltb t r.over) on
  where
    first : (a b : Bool) → (a && b) ≡ true → a ≡ true
    first true b h = refl
    first false b h = h

pub changed-open : (change : Change) (chains : Chains) (old new : Row) → IsChanged change chains old new → is_open change old ≡ true
changed-open Begin chains old new w = ap not w.before
changed-open Delete chains old new w = live-kept chains.moment.0 old w.before

pub changed-closed : (change : Change) (chains : Chains) (old new : Row) (a : Bool) → IsChanged change chains old new → is_open change (with_active a new) ≡ false
changed-closed Begin chains old new a w = ap not w.settled
changed-closed Delete chains old new a w = ap is_kept w.is

-- ---- the stack of pending rows

last-child : (first : ℕ) (rows : List Row) (links : List Link) (pending : List ℕ) (c : ℕ) → IsStack first rows links (pending ++ c ∷ []) → IsChild rows c
last-child first rows links pending c s = All-contains (IsChild rows) _ c s.ready (Contains-push pending c)

pub last-triggered : (first : ℕ) (rows : List Row) (links : List Link) (pending : List ℕ) (c : ℕ) (d : Row) → IsStack first rows links (pending ++ c ∷ []) → IsTriggered first rows (get_or rows c d)
last-triggered first rows links pending c d s =
    let at : IsChild rows c = last-child first rows links pending c s in
    elim (s.placed c d at.within).linked [
      | inl free ↦ absurd (at.triggered d free)
      | inr w ↦ let low : trig (get_or rows c d) < first + length rows = omega (arith, w.1, at.within) in (w.0, low)
    ]

pub stack-within : (first : ℕ) (rows : List Row) (links : List Link) (pending : List ℕ) (c : ℕ) → IsStack first rows links (pending ++ c ∷ []) → c < length rows
stack-within first rows links pending c s = (last-child first rows links pending c s).within

front : (X : ℕ → Type 0) (pending : List ℕ) (c : ℕ) → All X (pending ++ c ∷ []) → All X pending
front X pending c all k x lt = subst X (get_or_append_left pending (c ∷ []) x k lt) (all k x (omega (arith, lt, length_push pending c)))

none-left : (X : ℕ → Type 0) → All X []
none-left X k x lt = absurd (omega (arith, lt))

newest-child : (rows : List Row) (x n : ℕ) (o : Option ℕ) → n ≤ length rows → (x ≡ 0 → ⊥) → Newest rows x n o → All (IsChild rows) (option_to_list o)
newest-child rows x n None le has none = none-left (IsChild rows)
newest-child rows x n (Some f) le has some = All-push (IsChild rows) [] f (none-left (IsChild rows)) (record { within = omega (arith, some.0, le); triggered = λ d z. has (sym (some.1 d) ∙ z) })

pub stack-idle : (first : ℕ) (rows : List Row) (links : List Link) → Spreading first rows links [] → IsStack first rows links []
stack-idle first rows links s = record { from = s.from; placed = s.placed; linked = s.linked; ready = none-left (IsChild rows) }

-- the next sibling comes in place of the last pending row
pub stack-pass : (first : ℕ) (rows : List Row) (links : List Link) (pending : List ℕ) (c : ℕ) (l : Link) → IsStack first rows links (pending ++ c ∷ []) → IsStack first rows links (pending ++ option_to_list (get_or links c l).sibling)
stack-pass first rows links pending c l s =
    let at : IsChild rows c = last-child first rows links pending c s in
    record {
      from = s.from;
      placed = s.placed;
      linked = s.linked;
      ready = All-append (IsChild rows) pending _ (front (IsChild rows) pending c s.ready)
          (newest-child rows (trig (get_or rows c some-row)) c _ (omega (arith, at.within)) (at.triggered some-row) (s.linked.sibling c l some-row at.within (at.triggered some-row)));
    }

child-same : (xs ys : List Row) (c : ℕ) → length ys ≡ length xs → SameTriggers xs ys → IsChild xs c → IsChild ys c
child-same xs ys c len same at = record { within = omega (arith, at.within, len); triggered = λ d z. at.triggered d (sym (same c d) ∙ z) }

-- a row is written, and its newest child is pending too
pub stack-start : (first : ℕ) (rows rows' : List Row) (links : List Link) (pending : List ℕ) (c : ℕ) (v : Row) (l : Link) → IsStack first rows links pending → c < length rows
    → ((d : Row) → v.entry.scheduled ≡ (get_or rows c d).entry.scheduled) → rows' ≡ set rows c v → IsStack first rows' links (pending ++ option_to_list (get_or links c l).child)
stack-start first rows rows' links pending c v l s in' scheduled is =
    let new : List Row = set rows c v in
    let same : SameTriggers rows new = set-triggers rows c v in' scheduled in
    let len : length new ≡ length rows = length-set rows c v in
    let linked : Linked first new links = linked-same first rows new links len same s.linked in
    let P : List Row → Type 0 = λ xs. IsStack first xs links (pending ++ option_to_list (get_or links c l).child) in
    subst P (sym is) (record {
      from = s.from;
      placed = placed-set first rows c v in' scheduled s.placed;
      linked = linked;
      ready = All-append (IsChild new) pending _ (λ k x lt. child-same rows new _ len same (s.ready k x lt))
          (newest-child new (first + c) (length new) _ (omega arith) (λ z. omega (arith, z, s.from)) (linked.child c l (omega (arith, in', len))));
    })

-- ---- how much is left

pub pass-less : (first n : ℕ) (rows : List Row) (links : List Link) (pending : List ℕ) (c : ℕ) (l : Link) → IsStack first rows links (pending ++ c ∷ [])
    → n + load (pending ++ option_to_list (get_or links c l).sibling) < n + load (pending ++ c ∷ [])
pass-less first n rows links pending c l s =
    let at : IsChild rows c = last-child first rows links pending c s in
    omega (arith, sibling-less rows _ c pending _ (s.linked.sibling c l some-row at.within (at.triggered some-row)))

pub change-less : (f : Row → Bool) (first : ℕ) (rows rows' : List Row) (links : List Link) (pending : List ℕ) (c : ℕ) (l l' : Link) (d v : Row) → IsStack first rows links (pending ++ c ∷ []) → f (get_or rows c d) ≡ true → f v ≡ false → rows' ≡ set rows c v
    → count_by f rows' * (length rows' + 1) + load (Rest pending (get_or links c l).sibling (get_or links c l').child) < count_by f rows * (length rows + 1) + load (pending ++ c ∷ [])
change-less f first rows rows' links pending c l l' d v s on off is =
    let in' : c < length rows = (last-child first rows links pending c s).within in
    let one : count_by f rows ≡ count_by f rows' + 1 = sym (closed-count f rows rows' c d v in' on off is) in
    let n : length rows' ≡ length rows = ap length is ∙ length-set rows c v in
    let left : count_by f rows * (length rows + 1) ≡ (count_by f rows' + 1) * (length rows + 1) = ap (λ u. u * (length rows + 1)) one in
    let right : count_by f rows' * (length rows' + 1) ≡ count_by f rows' * (length rows + 1) = ap (λ m. count_by f rows' * (m + 1)) n in
    let kids : load (Rest pending (get_or links c l).sibling (get_or links c l').child) ≤ load (pending ++ option_to_list (get_or links c l).sibling) + length rows = child-less rows (first + c) (length rows) (pending ++ option_to_list (get_or links c l).sibling) _ (s.linked.child c l' in') in
    omega (arith, left, right, kids, pass-less first 0 rows links pending c l s)

-- ---- what a walk has done

pub keep-trans : (a b c : Chains) → Keeps a b → Keeps b c → Keeps a c
keep-trans a b c x y = record {
  links = y.links ∙ x.links;
  moment = y.moment ∙ x.moment;
  first = y.first ∙ x.first;
  size = keeps-trans _ _ _ _ _ _ x.size y.size;
  deadlines = adds-trans _ _ _ _ _ _ x.deadlines y.deadlines;
  pending = omega (arith, x.pending, y.pending);
}

pub walks-trans : (change : Change) (a b c : Chains) (p q r : List ℕ) → Walks change a p b q → Walks change b q c r → Walks change a p c r
walks-trans change a b c p q r x y = record {
  entries = λ is. y.entries is ∙ x.entries is;
  begins = λ is s. y.begins is (x.begins is s);
  deletes = λ is rows id w. y.deletes is rows id (x.deletes is rows id w);
}

not-both : ◌≡◌ {A = Change} Begin Delete → ⊥
not-both is = cc

-- a row that the walk passes by
pub walks-pass : (change : Change) (a : Chains) (pending next : List ℕ) (c : ℕ) (old : Row) (l : Link) → next ≡ pending ++ option_to_list (get_or a.links.items c l).sibling
    → IsStack a.first a.rows.items a.links.items (pending ++ c ∷ []) → ((d : Row) → old ≡ get_or a.rows.items c d) → IsPassed change a.moment.0 old → Walks change a (pending ++ c ∷ []) a next
walks-pass Begin a pending next c old l is s row passed = record {
  entries = λ is. refl;
  begins = λ _ w. rw is (skip-step _ _ _ pending c old l w (stack-within _ _ _ pending c s) (ap (λ (r : Row). r.settled) (sym (row old)) ∙ passed));
  deletes = λ is. absurd (not-both is);
}
walks-pass Delete a pending next c old l is s row passed = record {
  entries = λ is. absurd (not-both (sym is));
  begins = λ is. absurd (not-both (sym is));
  deletes = λ _ rows id w. rw is (deletes-pass _ _ id rows _ _ pending c old l (ap (live_at a.moment.0) (sym (row old)) ∙ passed) w);
}

-- a row that was deleted, as it was written
pub written-deleted : (a b : Chains) (c : ℕ) (old new : Row) → ((d : Row) → old ≡ get_or a.rows.items c d) → new ≡ with_active old.active (deleted_row old) → b.rows.items ≡ set a.rows.items c (with_active (active_at a.moment.0 new) new)
    → (e : Row) → b.rows.items ≡ set a.rows.items c (deleted_row (get_or a.rows.items c e))
written-deleted a b c old new row is wrote e =
    wrote ∙ ap (λ r. set a.rows.items c (with_active (active_at a.moment.0 r) r)) is ∙ ap (λ r. set a.rows.items c (deleted_row r)) (row e)

-- a row that it changes
pub walks-change : (change : Change) (a b : Chains) (pending next : List ℕ) (c : ℕ) (old new : Row) (l l' : Link) → next ≡ Rest pending (get_or a.links.items c l).sibling (get_or a.links.items c l').child
    → ((d : Row) → old ≡ get_or a.rows.items c d) → IsChanged change a old new → Keeps a b → b.rows.items ≡ set a.rows.items c (with_active (active_at a.moment.0 new) new) → Walks change a (pending ++ c ∷ []) b next
walks-change Begin a b pending next c old new l l' rest row w keeps is =
    let refreshes : Refreshes a.first a.rows.items b.rows.items c = record {
      row = with_active (active_at a.moment.0 new) new;
      is = is;
      entry = λ d. w.entry ∙ ap (λ (r : Row). r.entry) (row d);
      settled = w.settled;
      follows = λ e. record { begun_is = (w.follows e).begun_is; over_is = (w.follows e).over_is };
    } in
    record {
      entries = λ is. entries-refreshes _ _ _ _ refreshes;
      begins = λ is spreading. rw (rest, keeps.first, keeps.links) (spread-step _ _ _ _ pending c old l l' spreading (ap (λ (r : Row). r.settled) (sym (row old)) ∙ w.before) refreshes);
      deletes = λ is. absurd (not-both is);
    }
walks-change Delete a b pending next c old new l l' rest row w keeps is = record {
  entries = λ is. absurd (not-both (sym is));
  begins = λ is. absurd (not-both (sym is));
  deletes = λ _ rows id deletes. rw (rest, keeps.first, keeps.moment, keeps.links)
      (deletes-hit _ _ id rows _ _ _ pending c old l l' (ap (live_at a.moment.0) (sym (row old)) ∙ w.before) (written-deleted a b c old new row w.is is) deletes);
}

-- ---- the first row of a walk

at-most-one : (o : Option ℕ) → length (option_to_list o) ≤ 1
at-most-one None = omega arith
at-most-one (Some x) = omega arith

pub start-walking : (change : Change) (a b : Chains) (c : ℕ) (old v : Row) (l : Link) → IsReady a → c < length a.rows.items → ((d : Row) → old ≡ get_or a.rows.items c d) → v.entry.scheduled ≡ old.entry.scheduled
    → is_open change old ≡ true → is_open change v ≡ false → IsCurrent b → Keeps a b → b.pending ≡ a.pending → b.rows.items ≡ set a.rows.items c v
    → IsWalking change b (option_to_list (get_or b.links.items c l).child)
start-walking change a b c old v l ready in' row scheduled on off current keeps pending is = record {
  current = current;
  stack = rw (keeps.first, keeps.links) (stack-start _ _ _ _ [] c v l (stack-idle _ _ _ ready.spreading) in' (λ d. scheduled ∙ ap (λ (r : Row). r.entry.scheduled) (row d)) is);
  room = omega (
    arith,
    at-most-one (get_or b.links.items c l).child,
    closed-count (is_open change) _ _ c old v in' (ap (is_open change) (sym (row old)) ∙ on) off is,
    count_by-le-length (is_open change) a.rows.items,
    a.rows.ok.0,
    ready.room,
    ap vec_capacity pending,
  );
}

-- the first transition of an untriggered flexible entry
pub root-start : (a b : Chains) (c : ℕ) (old v : Row) (l : Link) → IsReady a → c < length a.rows.items → ((d : Row) → old ≡ get_or a.rows.items c d) → IsWaiting old → v.entry ≡ turned_at a.moment old.entry → v.settled ≡ true
    → Follows v None (Some 0) → Keeps a b → b.rows.items ≡ set a.rows.items c v → Spreading b.first b.rows.items b.links.items (option_to_list (get_or b.links.items c l).child)
root-start a b c old v l ready in' row waits entry on follows keeps is =
    let P : Row → Type 0 = IsWaiting in
    let at : IsWaiting (get_or a.rows.items c old) = subst P (row old) waits in
    rw (keeps.first, keeps.links)
    (root-step _ _ _ _ c old v l ready.spreading in' at.free (waiting-unsettled _ _ _ c old ready.spreading in' at) is
    (λ e. ap (λ e. e.scheduled) entry ∙ ap (λ (r : Row). r.entry.scheduled) (row e)) on follows (λ none. cc (none, entry)))

pub root-replaces : (a : Chains) (c : ℕ) (old new : Row) → IsReady a → c < length a.rows.items → old ≡ get_or a.rows.items c old → IsWaiting old → new.entry ≡ turned_at a.moment old.entry → new.active ≡ old.active → new.settled ≡ true → CanReplace old new
root-replaces a c old new ready in' row waits entry mark on =
    let P : Row → Type 0 = IsWaiting in
    let off : old.settled ≡ false = ap (λ (r : Row). r.settled) row ∙ waiting-unsettled _ _ _ c old ready.spreading in' (subst P row waits) in
    record {
      scheduled = ap (λ e. e.scheduled) entry;
      mark = mark;
      settles = λ _. on;
      moments = λ same. absurd (cc (same, on, off));
    }

-- a live row is deleted
pub delete-start : (a b : Chains) (c : ℕ) (old new : Row) (l : Link) → IsReady a → c < length a.rows.items → ((d : Row) → old ≡ get_or a.rows.items c d) → live_at a.moment.0 old ≡ true → new ≡ with_active old.active (deleted_row old)
    → Keeps a b → b.rows.items ≡ set a.rows.items c (with_active (active_at a.moment.0 new) new)
    → Deletes b.first b.moment.0 (a.first + c) a.rows.items b.rows.items b.links.items (option_to_list (get_or b.links.items c l).child)
delete-start a b c old new l ready in' row live is keeps wrote =
    rw (keeps.first, keeps.moment, keeps.links)
    (deletes-start _ _ _ _ _ c old l ready.spreading in' (ap (live_at a.moment.0) (sym (row old)) ∙ live) (written-deleted a b c old new row is wrote))
