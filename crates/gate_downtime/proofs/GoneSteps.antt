-- The list of rows that are live no more.
use Rattle.std.proofs.Common.{◌≡◌, ℕ, zero, suc, ◌+◌, ◌≤◌, ◌<◌, Bool, true, false, cond, not, ◌&&◌, ◌||◌, List, [], ◌∷◌, ◌++◌, map, replicate, set, get_or, length, refl, sym, ap, ◌∙◌, subst, arith, ◌⊎◌, inl, inr, ltb, vec_len, vec_capacity, length-set, get_or-set_same, get_or-set_other, lit<}
use Rattle.std.specs.Prelude.{All, Contains, count_by}
use Rattle.std.specs.List.{sum_by}
use Rattle.std.specs.List.Sorted.{IsPermutation}
use Rattle.std.specs.BinaryHeap.{heap_items, heap_len, heap_capacity, KeepsHeap, IsHeap}
use Rattle.std.specs.declared.cmp.Reverse.{Reverse}
use Rattle.std.proofs.lemmas.Bool.{cases_lt, cases_eq}
use Rattle.std.proofs.lemmas.List.{get_or-map, length-map, get_or_default, get_or_append_left, get_or_push, length_push, get_or-replicate, length-replicate, map-set}
use Rattle.std.proofs.lemmas.List.Sums.{sum_by-set, sum_by_push, get_or-le-sum_by}
use Rattle.std.proofs.lemmas.List.Elements.{All-cons, All-head, All-tail, Contains-append_right, Contains-append_left, Contains-append_cases}
use Rattle.std.proofs.lemmas.List.Sorted.{Contains-permutation, All-permutation}
use Rattle.std.proofs.Math.Seq.{map-set_same}
use Rattle.gate_downtime.specs.declared.row.Row.{Row}
use Rattle.gate_downtime.specs.declared.gone.Mark.{Mark}
use Rattle.gate_downtime.specs.declared.gone.Gone.{Gone}
use Rattle.gate_downtime.specs.inner.Rows.{live_at, with_active, Deadlines, Awake, IsDue, Sound, deadline_cmp}
use Rattle.gate_downtime.proofs.Fresh.{set-cases}
use Rattle.gate_downtime.proofs.Settling.{not-first, live-or-due, never-due}
use Rattle.gate_downtime.specs.inner.Gone.{gone_cmp, Listed, is_free, is_returned, IsKept, FitsMarks, Awaits, AllGone, GoneOrDue, Lists, SameGone, Pops, Returns, AllPassed, TakesGone}
use Rattle.std.specs.Global.{Vec}
use Rattle.gate_downtime.specs.declared.tally.Tally.{Tally}
use Rattle.gate_downtime.specs.inner.Tally.{KeepsSize, AddsForSettled}

-- a mark, where none is given
abbrev pub some-mark : Mark
some-mark = record { listed = false; returned = false }

-- one more row is listed, which was free
pub kept-push : (n : ℕ) (marks marks' : List Mark) (listed listed' : Listed) (at : ℕ) (v : Mark) → at < n → marks' ≡ set marks at v → IsPermutation (record { 0 = at } ∷ listed) listed' → KeepsHeap gone_cmp listed listed'
    → IsKept n marks listed → IsKept n marks' listed'
kept-push n marks marks' listed listed' at v in' is perm heap k = record {
  len = ap length is ∙ length-set marks at v ∙ k.len;
  order = heap k.order;
  indexed = All-permutation (λ (x : Reverse ℕ). x.0 < n) _ _ perm (All-cons (λ (x : Reverse ℕ). x.0 < n) _ _ in' k.indexed);
  there = λ j m lt on.
      elim (cases_eq j at) [
        | inl same ↦ let P : ℕ → Type 0 = λ i. Contains listed' (record { 0 = i }) in subst P (sym same) (Contains-permutation _ _ _ perm (Contains-append_left (record { 0 = at } ∷ []) listed (record { 0 = at }) (0, lit< tt, refl)))
        | inr ne ↦
            let old : (get_or marks j m).listed ≡ true = ap (λ (x : Mark). x.listed) (sym (get_or-set_other marks at j v m ne) ∙ ap (λ xs. get_or xs j m) (sym is)) ∙ on in
            Contains-permutation _ _ _ perm (Contains-append_right (record { 0 = at } ∷ []) listed (record { 0 = j }) (k.there j m lt old))
      ];
}

pub free-less : (marks marks' : List Mark) (at : ℕ) (m v : Mark) → at < length marks → marks' ≡ set marks at v → is_free (get_or marks at m) ≡ true → is_free v ≡ false → count_by is_free marks' + 1 ≡ count_by is_free marks
free-less marks marks' at m v in' is on off =
    let f : Mark → ℕ = λ x. cond (is_free x) 1 0 in
    let change : sum_by f (set marks at v) + f (get_or marks at m) ≡ sum_by f marks + f v = sum_by-set f marks at v m in' in
    let one : f (get_or marks at m) ≡ 1 = ap (λ b. cond b 1 0) on in
    let none : f v ≡ 0 = ap (λ b. cond b 1 0) off in
    omega (arith, change, one, none, ap (sum_by f) is)

pub free-positive : (marks : List Mark) (at : ℕ) (m : Mark) → at < length marks → is_free (get_or marks at m) ≡ true → 1 ≤ count_by is_free marks
free-positive marks at m in' on =
    let one : ◌≡◌ {A = ℕ} (cond (is_free (get_or marks at m)) 1 0) 1 = ap (λ b. cond b 1 0) on in
    omega (arith, one, get_or-le-sum_by (λ x. cond (is_free x) 1 0) marks at m in')

-- the flags of what was returned, one by one
pub returned-at : (xs ys : List Mark) → map is_returned ys ≡ map is_returned xs → (k : ℕ) (m : Mark) → k < length xs → (get_or ys k m).returned ≡ (get_or xs k m).returned
returned-at xs ys same k m lt =
    let long : length ys ≡ length xs = sym (length-map ys is_returned) ∙ ap length same ∙ length-map xs is_returned in
    sym (get_or-map is_returned ys k m false (omega (arith, lt, long))) ∙ ap (λ l. get_or l k false) same ∙ get_or-map is_returned xs k m false lt

pub awaits-lists : (t at k : ℕ) (live : Bool) (r r' : Row) (old new : Gone) → k < length old.marks.items → Lists at live old new → (let f : Row → Bool = λ (x : Row). not x.entry.deleted && ltb t x.over in f r' ≡ false → f r ≡ false)
    → Awaits t old.marks.items (heap_items old.heap) k r → Awaits t new.marks.items (heap_items new.heap) k r'
awaits-lists t at k live r r' old new lt lists dead awaits off fresh =
    lists.keeps k (awaits (dead off) (λ m. sym (returned-at old.marks.items new.marks.items lists.same k m lt) ∙ fresh m))

pub awaits-listed : (t at : ℕ) (live : Bool) (r' : Row) (old new : Gone) → at < length old.marks.items → Lists at live old new → (let f : Row → Bool = λ (x : Row). not x.entry.deleted && ltb t x.over in live ≡ f r')
    → Awaits t new.marks.items (heap_items new.heap) at r'
awaits-listed t at live r' old new lt lists is off fresh =
    lists.there (is ∙ off) (λ m. sym (returned-at old.marks.items new.marks.items lists.same at m lt) ∙ fresh m)

pub free-is : (m : Mark) → m.listed ≡ false → m.returned ≡ false → is_free m ≡ true
free-is m a b = ap (λ x. not (x || m.returned)) a ∙ ap not b

-- listed, where it was free
pub lists-one : (at : ℕ) (live : Bool) (old new : Gone) (m : Mark) → at < length old.marks.items → new.marks.items ≡ set old.marks.items at (record { listed = true; returned = false }) → (get_or old.marks.items at m).listed ≡ false → (get_or old.marks.items at m).returned ≡ false
    → IsPermutation (record { 0 = at } ∷ heap_items old.heap) (heap_items new.heap) → KeepsHeap gone_cmp (heap_items old.heap) (heap_items new.heap) → heap_len new.heap ≡ heap_len old.heap + 1 → heap_capacity old.heap ≤ heap_capacity new.heap
    → vec_len new.marks ≡ vec_len old.marks → vec_capacity new.marks ≡ vec_capacity old.marks → Lists at live old new
lists-one at live old new m in' is off fresh perm heap len cap long mcap = record {
  kept = λ n k. kept-push n old.marks.items new.marks.items _ _ at (record { listed = true; returned = false }) (omega (arith, in', k.len)) is perm heap k;
  few = λ n f. omega (arith, f, len, free-less old.marks.items new.marks.items at m (record { listed = true; returned = false }) in' is (free-is (get_or old.marks.items at m) off fresh) refl);
  keeps = λ k has. Contains-permutation _ _ _ perm (Contains-append_right (record { 0 = at } ∷ []) _ (record { 0 = k }) has);
  same = ap (map is_returned) is ∙ map-set_same is_returned old.marks.items at (record { listed = true; returned = false }) m (sym fresh);
  there = λ dead un. Contains-permutation _ _ _ perm (Contains-append_left (record { 0 = at } ∷ []) _ (record { 0 = at }) (0, lit< tt, refl));
  capacity = cap;
  marks_len = long;
  marks_capacity = omega (arith, mcap);
}

-- ---- rows and their list

pub gone-same : (a : Gone) → SameGone a a
gone-same a = record { same = refl; capacity = omega arith; marks_len = refl; marks_capacity = omega arith }

pub gone-trans : (a b c : Gone) → SameGone a b → SameGone b c → SameGone a c
gone-trans a b c x y = record { same = y.same ∙ x.same; capacity = omega (arith, x.capacity, y.capacity); marks_len = y.marks_len ∙ x.marks_len; marks_capacity = omega (arith, x.marks_capacity, y.marks_capacity) }

pub gone-lists : (at : ℕ) (live : Bool) (a b : Gone) → Lists at live a b → SameGone a b
gone-lists at live a b x = record { same = x.same; capacity = x.capacity; marks_len = x.marks_len; marks_capacity = x.marks_capacity }

pub keeps-trans : (rows mid rows' : Vec Row) (a b c : Tally) → KeepsSize rows mid a b → KeepsSize mid rows' b c → KeepsSize rows rows' a c
keeps-trans rows mid rows' a b c x y = record {
  objects = y.objects ∙ x.objects;
  gone_same = gone-trans a.gone b.gone c.gone x.gone_same y.gone_same;
  ids_same = y.ids_same ∙ x.ids_same;
  len = y.len ∙ x.len;
  capacity = y.capacity ∙ x.capacity;
}

pub adds-trans : (rows mid rows' : List Row) (a b c : Tally) → AddsForSettled rows mid a b → AddsForSettled mid rows' b c → AddsForSettled rows rows' a c
adds-trans rows mid rows' a b c x y = record { left = omega (arith, x.left, y.left); capacity = omega (arith, x.capacity, y.capacity) }

-- a row written, and listed if it isn't live
gone-write : (t at : ℕ) (v : Row) (live : Bool) (rows rows' : List Row) (old new : Gone) → at < length rows → rows' ≡ set rows at v → live ≡ live_at t v → Lists at live old new
    → IsKept (length rows) old.marks.items (heap_items old.heap) → heap_len old.heap + count_by is_free old.marks.items ≤ length rows → length rows ≤ heap_capacity old.heap
    → ((j : ℕ) (d : Row) → j < length rows → (j ≡ at → ⊥) → Awaits t old.marks.items (heap_items old.heap) j (get_or rows j d)) → AllGone t rows' new
gone-write t at v live rows rows' old new in' is dead lists kept few room awaits =
    let P : List Row → Type 0 = λ xs. AllGone t xs new in
    let len : length (set rows at v) ≡ length rows = length-set rows at v in
    let Q : ℕ → Type 0 = λ n. IsKept n new.marks.items (heap_items new.heap) in
    subst P (sym is) (record {
      kept = subst Q (sym len) (lists.kept (length rows) kept);
      few = omega (arith, len, lists.few (length rows) few);
      room = omega (arith, len, room, lists.capacity);
      awaits = set-cases rows at v in' (λ j x. Awaits t new.marks.items (heap_items new.heap) j x)
          (λ j d lt ne. awaits-lists t at j live (get_or rows j d) (get_or rows j d) old new (omega (arith, lt, kept.len)) lists (λ off. off) (awaits j d lt ne))
          (awaits-listed t at live v old new (omega (arith, in', kept.len)) lists dead);
    })

pub gone-set : (t at : ℕ) (v : Row) (live : Bool) (rows rows' : List Row) (old new : Gone) → at < length rows → rows' ≡ set rows at v → live ≡ live_at t v → Lists at live old new → AllGone t rows old → AllGone t rows' new
gone-set t at v live rows rows' old new in' is dead lists s = gone-write t at v live rows rows' old new in' is dead lists s.kept s.few s.room (λ j d lt ne. s.awaits j d lt)

pub gone-step : (now m k : ℕ) (d : Row) (a live : Bool) (rows rows' : List Row) (deadlines deadlines' : Deadlines) (old new : Gone) → k < length rows → IsPermutation deadlines (record { 0 = (m, k) } ∷ deadlines')
    → ((e : Row) → rows' ≡ set rows k (with_active a (get_or rows k e))) → live ≡ live_at now (get_or rows k d) → Lists k live old new → GoneOrDue now rows deadlines old → GoneOrDue now rows' deadlines' new
gone-step now m k d a live rows rows' deadlines deadlines' old new in' perm is dead lists s =
    let v : Row = with_active a (get_or rows k d) in
    let P : List Row → Type 0 = λ xs. GoneOrDue now xs deadlines' new in
    let len : length (set rows k v) ≡ length rows = length-set rows k v in
    let Q : ℕ → Type 0 = λ n. IsKept n new.marks.items (heap_items new.heap) in
    subst P (sym (is d)) (record {
      kept = subst Q (sym len) (lists.kept (length rows) s.kept);
      few = omega (arith, len, lists.few (length rows) s.few);
      room = omega (arith, len, s.room, lists.capacity);
      awaits = set-cases rows k v in' (λ j x. Awaits now new.marks.items (heap_items new.heap) j x ⊎ IsDue now deadlines' j)
          (λ j e lt ne. elim (s.awaits j e lt) [
            | inl w ↦ inl (awaits-lists now k j live (get_or rows j e) (get_or rows j e) old new (omega (arith, lt, s.kept.len)) lists (λ off. off) w)
            | inr due ↦ inr (record {
              moment = due.moment;
              past = due.past;
              there = not-first (record { 0 = (m, k) }) deadlines' (record { 0 = (due.moment, j) }) (λ q. ne (sym (ap (λ (y : Reverse (ℕ × ℕ)). y.0.1) q))) (Contains-permutation _ _ _ perm due.there);
            })
          ])
          (inl (awaits-listed now k live v old new (omega (arith, in', s.kept.len)) lists dead));
    })

-- on the way to a later moment
pub gone-start : (t now : ℕ) (rows : List Row) (deadlines : Deadlines) (gone : Gone) → t ≤ now → Awake t rows deadlines → AllGone t rows gone → GoneOrDue now rows deadlines gone
gone-start t now rows deadlines gone le awake s = record {
  kept = s.kept;
  few = s.few;
  room = s.room;
  awaits = λ k d lt. elim (live-or-due t now rows deadlines k d le awake lt) [
    | inl same ↦ inl (λ off fresh. s.awaits k d lt (same ∙ off) fresh)
    | inr due ↦ inr due
  ];
}

pub gone-end : (now : ℕ) (rows : List Row) (deadlines : Deadlines) (gone : Gone) → GoneOrDue now rows deadlines gone → All (λ (x : Reverse (ℕ × ℕ)). now < x.0.0) deadlines → AllGone now rows gone
gone-end now rows deadlines gone s none = record {
  kept = s.kept;
  few = s.few;
  room = s.room;
  awaits = λ k d lt. elim (s.awaits k d lt) [
    | inl w ↦ w
    | inr due ↦ absurd (never-due now deadlines k none due)
  ];
}

-- one more row
pub kept-more : (n : ℕ) (marks : List Mark) (listed : Listed) → IsKept n marks listed → IsKept (n + 1) (marks ++ some-mark ∷ []) listed
kept-more n marks listed k = record {
  len = length_push marks some-mark ∙ ap (λ n. n + 1) k.len;
  order = k.order;
  indexed = λ i e lt. omega (arith, k.indexed i e lt);
  there = λ j m lt on.
      elim (cases_lt j n) [
        | inl low ↦ k.there j m low (ap (λ (x : Mark). x.listed) (sym (get_or_append_left marks (some-mark ∷ []) m j (omega (arith, low, k.len)))) ∙ on)
        | inr high ↦ absurd (off (ap (λ (x : Mark). x.listed) (sym (get_or_push marks some-mark m j (omega (arith, high, lt, k.len)))) ∙ on))
      ];
}
  where
    off : ◌≡◌ {A = Bool} false true → ⊥
    off e = cc

pub fits-more : (n : ℕ) (old new : Gone) → new.marks.items ≡ old.marks.items ++ some-mark ∷ [] → new.heap ≡ old.heap → IsKept n old.marks.items (heap_items old.heap) → FitsMarks new
fits-more n old new marks heap kept =
    let P : List Mark → Type 0 = λ ms. IsKept (length ms) ms (heap_items new.heap) in
    let Q : ℕ → Type 0 = λ len. IsKept len (old.marks.items ++ some-mark ∷ []) (heap_items new.heap) in
    let R : Listed → Type 0 = λ xs. IsKept (n + 1) (old.marks.items ++ some-mark ∷ []) xs in
    subst P (sym marks) (subst Q (sym (length_push old.marks.items some-mark ∙ ap (λ n. n + 1) kept.len)) (subst R (sym (ap (λ h. heap_items h) heap)) (kept-more n _ _ kept)))

pub free-more : (marks : List Mark) → count_by is_free (marks ++ some-mark ∷ []) ≡ count_by is_free marks + 1
free-more marks = sum_by_push (λ x. cond (is_free x) 1 0) marks some-mark

pub gone-add : (t : ℕ) (r : Row) (live : Bool) (rows marked : List Row) (old more new : Gone) (a : Bool) → marked ≡ set (rows ++ r ∷ []) (length rows) (with_active a r) → more.marks.items ≡ old.marks.items ++ some-mark ∷ [] → more.heap ≡ old.heap
    → length rows + 1 ≤ heap_capacity old.heap → live ≡ live_at t r → Lists (length rows) live more new → AllGone t rows old → AllGone t marked new
gone-add t r live rows marked old more new a is marks heap room dead lists s =
    gone-write t (length rows) (with_active a r) live (rows ++ r ∷ []) marked more new (omega (arith, length_push rows r)) is dead lists
    (subst P (sym (length_push rows r)) (subst Q (sym marks) (subst R (sym (ap (λ h. heap_items h) heap)) (kept-more (length rows) _ _ s.kept))))
    (omega (arith, length_push rows r, s.few, ap (λ h. heap_len h) heap, ap (count_by is_free) marks, free-more old.marks.items)) (omega (arith, length_push rows r, room, ap (λ h. heap_capacity h) heap))
    (λ j d lt ne off fresh.
    let low : j < length rows = omega (arith, lt, length_push rows r, ne) in
    let S : Listed → Type 0 = λ xs. Contains xs (record { 0 = j }) in
    subst S (sym (ap (λ h. heap_items h) heap))
    (s.awaits j d low (ap (live_at t) (sym (get_or_append_left rows (r ∷ []) d j low)) ∙ off)
    (λ m. ap (λ (x : Mark). x.returned) (sym (ap (λ xs. get_or xs j m) marks ∙ get_or_append_left old.marks.items (some-mark ∷ []) m j (omega (arith, low, s.kept.len)))) ∙ fresh m)))
  where
    P : ℕ → Type 0
    P n = IsKept n more.marks.items (heap_items more.heap)

    Q : List Mark → Type 0
    Q ms = IsKept (length rows + 1) ms (heap_items more.heap)

    R : Listed → Type 0
    R xs = IsKept (length rows + 1) (old.marks.items ++ some-mark ∷ []) xs

-- no rows
pub sound-none : (t n : ℕ) (depths : List ℕ) (deadlines : Deadlines) → depths ≡ replicate n 0 → deadlines ≡ [] → IsHeap deadline_cmp deadlines → Sound t [] depths deadlines
sound-none t n depths deadlines zeros none heap = record {
  fits = record {
    order = heap;
    counted = λ p lt. ap (λ xs. get_or xs p 0) zeros ∙ get_or-replicate n p 0 0 (omega (arith, lt, ap length zeros, length-replicate {A = ℕ} n 0));
    placed = λ k d lt. absurd (omega (arith, lt));
    indexed = λ k d lt. absurd (omega (arith, lt, ap length none));
    few = lit< tt;
  };
  awake = λ k d lt. absurd (omega (arith, lt));
  marked = λ k d lt. absurd (omega (arith, lt));
}

-- ---- taking

pub same-mark : (marks marks' : List Mark) (at : ℕ) (m v : Mark) → at < length marks → marks' ≡ set marks at v → v.returned ≡ (get_or marks at m).returned → map is_returned marks' ≡ map is_returned marks
same-mark marks marks' at m v in' is same = ap (map is_returned) is ∙ map-set_same is_returned marks at v m same

not-first-of : (x : Reverse ℕ) (xs : Listed) (y : Reverse ℕ) → (x ≡ y → ⊥) → Contains (x ∷ xs) y → Contains xs y
not-first-of x xs y ne has = elim (Contains-append_cases (x ∷ []) xs y has) [
  | inl one ↦ absurd (ne (only one.0 one.1 one.2))
  | inr rest ↦ rest
]
  where
    only : (k : ℕ) → k < length (x ∷ []) → get_or (x ∷ []) k y ≡ y → x ≡ y
    only zero lt is = is
    only (suc k) lt is = absurd (omega (arith, lt))

pub popped-within : (n at : ℕ) (marks : List Mark) (listed left : Listed) → IsKept n marks listed → IsPermutation listed (record { 0 = at } ∷ left) → at < n
popped-within n at marks listed left k perm = All-head (λ (x : Reverse ℕ). x.0 < n) _ _ (All-permutation (λ (x : Reverse ℕ). x.0 < n) _ _ perm k.indexed)

kept-pop : (n at : ℕ) (m v : Mark) (marks marks' : List Mark) (listed left : Listed) → IsPermutation listed (record { 0 = at } ∷ left) → IsHeap gone_cmp left → marks' ≡ set marks at v → v.listed ≡ false → at < length marks → IsKept n marks listed → IsKept n marks' left
kept-pop n at m v marks marks' listed left perm heap is off in' k = record {
  len = ap length is ∙ length-set marks at v ∙ k.len;
  order = heap;
  indexed = All-tail (λ (x : Reverse ℕ). x.0 < n) _ _ (All-permutation (λ (x : Reverse ℕ). x.0 < n) _ _ perm k.indexed);
  there = λ j e lt on.
      let at' : (get_or (set marks at v) j e).listed ≡ true = ap (λ xs. (get_or xs j e).listed) (sym is) ∙ on in
      elim (cases_eq j at) [
        | inl same ↦
            let P : ℕ → Type 0 = λ i. (get_or (set marks at v) i e).listed ≡ true in
            absurd (both (sym (ap (λ (x : Mark). x.listed) (get_or-set_same marks at v e in')) ∙ subst P same at') off)
        | inr ne ↦
            not-first-of (record { 0 = at }) left (record { 0 = j }) (λ q. ne (sym (ap (λ (y : Reverse ℕ). y.0) q)))
            (Contains-permutation _ _ _ perm (k.there j e lt (ap (λ (x : Mark). x.listed) (sym (get_or-set_other marks at j v e ne)) ∙ at')))
      ];
}
  where
    both : {b : Bool} → b ≡ true → b ≡ false → ⊥
    both x y = cc

few-pop : (at : ℕ) (m v : Mark) (marks marks' : List Mark) → at < length marks → marks' ≡ set marks at v → count_by is_free marks' ≤ count_by is_free marks + 1
few-pop at m v marks marks' in' is =
    let f : Mark → ℕ = λ x. cond (is_free x) 1 0 in
    let change : sum_by f (set marks at v) + f (get_or marks at m) ≡ sum_by f marks + f v = sum_by-set f marks at v m in' in
    omega (arith, change, most (is_free v), ap (sum_by f) is)
  where
    most : (b : Bool) → cond b 1 0 ≤ 1
    most true = omega arith
    most false = omega arith

pub pops-one : (at : ℕ) (m v : Mark) (old new : Gone) → IsKept (length old.marks.items) old.marks.items (heap_items old.heap) → IsPermutation (heap_items old.heap) (record { 0 = at } ∷ heap_items new.heap) → IsHeap gone_cmp (heap_items new.heap) → All (λ (x : Reverse ℕ). at ≤ x.0) (heap_items new.heap)
    → heap_len new.heap + 1 ≡ heap_len old.heap → new.marks.items ≡ set old.marks.items at v → v.listed ≡ false → Pops at old new
pops-one at m v old new k perm heap least len is off =
    let in' : at < length old.marks.items = popped-within _ at old.marks.items _ _ k perm in
    record {
      within = in';
      kept = λ n kept. kept-pop n at m v old.marks.items new.marks.items _ _ perm heap is off in' kept;
      few = λ n f. omega (arith, f, len, few-pop at m v old.marks.items new.marks.items in' is);
      least = λ k has.
          elim (cases_eq k at) [
            | inl same ↦ omega (arith, same)
            | inr ne ↦
                let w : Contains (heap_items new.heap) (record { 0 = k }) = not-first-of (record { 0 = at }) _ (record { 0 = k }) (λ q. ne (sym (ap (λ (y : Reverse ℕ). y.0) q))) (Contains-permutation _ _ _ perm has) in
                let up : at ≤ (get_or (heap_items new.heap) w.0 (record { 0 = k })).0 = least w.0 (record { 0 = k }) w.1 in
                let is' : (get_or (heap_items new.heap) w.0 (record { 0 = k })).0 ≡ k = ap (λ (y : Reverse ℕ). y.0) w.2 in
                omega (arith, up, is')
          ];
      keeps = λ k ne has. not-first-of (record { 0 = at }) _ (record { 0 = k }) (λ q. ne (sym (ap (λ (y : Reverse ℕ). y.0) q))) (Contains-permutation _ _ _ perm has);
    }

-- a listed row that is live, or was returned, is passed
pub gone-pass : (now at : ℕ) (d : Row) (m : Mark) (rows : List Row) (old new : Gone) → Pops at old new → SameGone old new → AllGone now rows old → (live_at now (get_or rows at d) || (get_or new.marks.items at m).returned) ≡ true → AllGone now rows new
gone-pass now at d m rows old new pops same s passed = record {
  kept = pops.kept (length rows) s.kept;
  few = pops.few (length rows) s.few;
  room = omega (arith, s.room, same.capacity);
  awaits = λ k e lt off fresh.
      let low : k < length old.marks.items = omega (arith, lt, s.kept.len) in
      elim (cases_eq k at) [
        | inl is ↦
            let P : ℕ → Type 0 = λ i. live_at now (get_or rows i e) ≡ false in
            let Q : ℕ → Type 0 = λ i. (get_or new.marks.items i m).returned ≡ false in
            absurd (none (live_at now (get_or rows at d)) (get_or new.marks.items at m).returned passed (ap (live_at now) (get_or_default rows at d e (omega (arith, lt, is))) ∙ subst P is off) (subst Q is (fresh m)))
        | inr ne ↦ pops.keeps k ne (s.awaits k e lt off (λ x. sym (returned-at old.marks.items new.marks.items same.same k x low) ∙ fresh x))
      ];
}
  where
    none : (a b : Bool) → (a || b) ≡ true → a ≡ false → b ≡ false → ⊥
    none false false p q r = cc
    none true b p q r = cc
    none false true p q r = cc

-- the rows before the least listed one are live, or were returned
pub passed-before : (now at : ℕ) (rows : List Row) (gone : Gone) → ((k : ℕ) → Contains (heap_items gone.heap) (record { 0 = k }) → at ≤ k) → AllGone now rows gone → at ≤ length rows → AllPassed now rows gone at
passed-before now at rows gone least s le k d m lt = split (live_at now (get_or rows k d)) (get_or gone.marks.items k m).returned refl refl
  where
    split : (a b : Bool) → live_at now (get_or rows k d) ≡ a → (get_or gone.marks.items k m).returned ≡ b → (a || b) ≡ true
    split true b p q = refl
    split false true p q = refl
    split false false p q =
        let has : Contains (heap_items gone.heap) (record { 0 = k }) = s.awaits k d (omega (arith, lt, le)) p (λ x. ap (λ (y : Mark). y.returned) (get_or_default gone.marks.items k x m (omega (arith, lt, le, s.kept.len))) ∙ q) in
        absurd (omega (arith, lt, least k has))

pub passed-same : (now n : ℕ) (rows : List Row) (a b : Gone) → n ≤ length a.marks.items → SameGone a b → AllPassed now rows b n → AllPassed now rows a n
passed-same now n rows a b le same p k d m lt = ap (λ x. live_at now (get_or rows k d) || x) (sym (returned-at a.marks.items b.marks.items same.same k m (omega (arith, lt, le)))) ∙ p k d m lt

pub passed-none : (now : ℕ) (rows : List Row) (gone : Gone) → heap_items gone.heap ≡ [] → AllGone now rows gone → AllPassed now rows gone (length rows)
passed-none now rows gone none s = passed-before now (length rows) rows gone (λ k has. absurd (omega (arith, has.1, ap length none))) s (omega arith)

-- the row is returned
pub gone-return : (now at : ℕ) (m : Mark) (rows : List Row) (old new : Gone) → at < length rows → Returns at old new → IsKept (length rows) old.marks.items (heap_items old.heap) → heap_len old.heap + count_by is_free old.marks.items ≤ length rows → length rows ≤ heap_capacity old.heap
    → ((k : ℕ) (d : Row) → k < length rows → (k ≡ at → ⊥) → Awaits now old.marks.items (heap_items old.heap) k (get_or rows k d)) → AllGone now rows new
gone-return now at m rows old new in' r kept few room awaits =
    let v : Mark = record { listed = (get_or old.marks.items at m).listed; returned = true } in
    let low : at < length old.marks.items = omega (arith, in', kept.len) in
    let heap : heap_items new.heap ≡ heap_items old.heap = ap (λ h. heap_items h) r.heap in
    let P : Listed → Type 0 = λ xs. IsKept (length rows) new.marks.items xs in
    record {
      kept = subst P (sym heap) (record {
        len = ap length (r.marks m) ∙ length-set old.marks.items at v ∙ kept.len;
        order = kept.order;
        indexed = kept.indexed;
        there = λ j e lt on.
            let on' : (get_or (set old.marks.items at v) j e).listed ≡ true = ap (λ xs. (get_or xs j e).listed) (sym (r.marks m)) ∙ on in
            elim (cases_eq j at) [
              | inl same ↦
                  let Q : ℕ → Type 0 = λ i. (get_or (set old.marks.items at v) i e).listed ≡ true in
                  let R : ℕ → Type 0 = λ i. Contains (heap_items old.heap) (record { 0 = i }) in
                  subst R (sym same) (kept.there at m in' (sym (ap (λ (x : Mark). x.listed) (get_or-set_same old.marks.items at v e low)) ∙ subst Q same on'))
              | inr ne ↦ kept.there j e lt (ap (λ (x : Mark). x.listed) (sym (get_or-set_other old.marks.items at j v e ne)) ∙ on')
            ];
      });
      few = omega (arith, few, ap (λ h. heap_len h) r.heap, free-not-more old.marks.items new.marks.items at m low (r.marks m));
      room = omega (arith, room, ap (λ h. heap_capacity h) r.heap);
      awaits = λ k d lt off fresh.
          let S : Listed → Type 0 = λ xs. Contains xs (record { 0 = k }) in
          elim (cases_eq k at) [
            | inl same ↦
                let Q : ℕ → Type 0 = λ i. (get_or new.marks.items i m).returned ≡ false in
                absurd (both (ap (λ xs. (get_or xs at m).returned) (r.marks m) ∙ ap (λ (x : Mark). x.returned) (get_or-set_same old.marks.items at v m low)) (subst Q same (fresh m)))
            | inr ne ↦ subst S (sym heap) (awaits k d lt ne off (λ x. ap (λ (y : Mark). y.returned) (sym (ap (λ xs. get_or xs k x) (r.marks m) ∙ get_or-set_other old.marks.items at k v x ne)) ∙ fresh x))
          ];
    }
  where
    both : {b : Bool} → b ≡ true → b ≡ false → ⊥
    both x y = cc

    free-not-more : (marks marks' : List Mark) (at : ℕ) (m : Mark) → at < length marks → marks' ≡ set marks at (record { listed = (get_or marks at m).listed; returned = true }) → count_by is_free marks' ≤ count_by is_free marks
    free-not-more marks marks' at m lt is =
        let f : Mark → ℕ = λ x. cond (is_free x) 1 0 in
        let w : Mark = record { listed = (get_or marks at m).listed; returned = true } in
        let change : sum_by f (set marks at w) + f (get_or marks at m) ≡ sum_by f marks + f w = sum_by-set f marks at w m lt in
        omega (arith, change, none (get_or marks at m).listed, ap (sum_by f) is)
      where
        none : (b : Bool) → ◌≡◌ {A = ℕ} (cond (not (b || true)) 1 0) 0
        none true = refl
        none false = refl

pub returned-flags : (at : ℕ) (m : Mark) (old new : Gone) → at < length old.marks.items → Returns at old new → map is_returned new.marks.items ≡ set (map is_returned old.marks.items) at true
returned-flags at m old new lt r = ap (map is_returned) (r.marks m) ∙ map-set is_returned old.marks.items at (record { listed = (get_or old.marks.items at m).listed; returned = true })

-- the least listed row, which is neither live nor returned, is returned
pub takes-one : (now at : ℕ) (d : Row) (m : Mark) (rows : List Row) (first before popped new : Gone) → SameGone first before → AllGone now rows before → Pops at before popped → SameGone before popped → Returns at popped new
    → live_at now (get_or rows at d) ≡ false → (get_or popped.marks.items at m).returned ≡ false → AllGone now rows new × TakesGone now rows at first new
takes-one now at d m rows first before popped new since s pops same r dead fresh = (
  gone-return now at m rows popped new in' r (pops.kept (length rows) s.kept) (pops.few (length rows) s.few) (omega (arith, s.room, same.capacity))
      (λ k e lt ne off un. pops.keeps k ne (s.awaits k e lt off (λ x. sym (returned-at before.marks.items popped.marks.items same.same k x (omega (arith, lt, s.kept.len))) ∙ un x))),
  record {
    within = in';
    dead = λ e. ap (live_at now) (get_or_default rows at e d in') ∙ dead;
    fresh = λ x. sym (returned-at first.marks.items popped.marks.items all at x low) ∙ ap (λ (y : Mark). y.returned) (get_or_default popped.marks.items at x m (omega (arith, low, long))) ∙ fresh;
    before = passed-same now at rows first before (omega (arith, low)) since (passed-before now at rows before pops.least s (omega (arith, in')));
    flags = returned-flags at m popped new (omega (arith, low, long)) r ∙ ap (λ fs. set fs at true) all;
    marks_len = r.marks_len ∙ same.marks_len ∙ since.marks_len;
    marks_capacity = omega (arith, r.marks_capacity, same.marks_capacity, since.marks_capacity);
    capacity = omega (arith, ap (λ h. heap_capacity h) r.heap, same.capacity, since.capacity);
  },
)
  where
    in' : at < length rows
    in' = omega (arith, pops.within, s.kept.len)

    all : map is_returned popped.marks.items ≡ map is_returned first.marks.items
    all = same.same ∙ since.same

    long : length popped.marks.items ≡ length first.marks.items
    long = sym (length-map popped.marks.items is_returned) ∙ ap length all ∙ length-map first.marks.items is_returned

    low : at < length first.marks.items
    low = omega (arith, long, in', (pops.kept (length rows) s.kept).len)

pub both-false : (a b : Bool) → (a || b) ≡ false → (a ≡ false) × (b ≡ false)
both-false false false e = (refl, refl)
both-false true b e = cc
both-false false true e = cc
