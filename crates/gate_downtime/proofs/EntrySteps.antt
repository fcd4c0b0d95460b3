-- The live entries that a book shows, and which of them a call leaves.
use Rattle.std.proofs.Common.{◌≡◌, ℕ, suc, ◌+◌, ◌-◌, ◌≤◌, ◌<◌, Bool, true, false, cond, not, ◌&&◌, ◌||◌, List, [], ◌∷◌, ◌++◌, map, get_or, length, Option, refl, sym, ap, ◌∙◌, subst, arith, ltb}
use Rattle.std.specs.Prelude.{Some, Contains, filter}
use Rattle.std.specs.List.{position_from}
use Rattle.std.proofs.lemmas.Bool.{true≢false, lt-ltb}
use borrow.Author.Tests.{ltb-true}
use Rattle.std.proofs.lemmas.List.{get_or-map, length-map, reverse-reverse}
use Rattle.gate_model.specs.declared.record.Moment.{Moment}
use Rattle.gate_model.specs.declared.downtime.Scheduled.{Scheduled}
use Rattle.gate_model.specs.declared.downtime.Entry.{Entry}
use Rattle.gate_model.specs.Downtime.{is_live_in, entries_of}
use Rattle.gate_model.proofs.Lists.{position_from-map}
use Rattle.gate_model.proofs.DowntimeGone.{gone-stays}
use Rattle.gate_downtime.specs.declared.row.Row.{Row}
use Rattle.gate_downtime.specs.declared.live.LiveIds.{LiveIds}
use Rattle.gate_model.specs.declared.downtime.DowntimeEvent.{DowntimeEvent}
use Rattle.gate_downtime.specs.Book.{DowntimeView, live_entries, after_transition}
use Rattle.gate_downtime.specs.Standing.{IsStanding, live_of}
use Rattle.gate_downtime.specs.Search.{has_id, index_of_id}
use Rattle.gate_downtime.specs.inner.Rows.{row_entries, live_at, is_live_row, with_active, some-row, Consistent, SameButMarks}
use Rattle.gate_downtime.specs.inner.Gone.{returned_ids}
use Rattle.gate_downtime.specs.inner.Live.{live_ids, index_among, scheduled_at, AreAscending, AreNoted, AllNoted}
use Rattle.gate_downtime.specs.inner.Walk.{entry_list}
use Rattle.gate_downtime.specs.inner.Cancel.{HasStruck, hit_at}
use Rattle.gate_downtime.proofs.Cached.{cached}
use Rattle.gate_downtime.proofs.Unmarked.{length-same}
use Rattle.gate_downtime.proofs.LiveSteps.{live-is}
use Rattle.gate_downtime.proofs.CancelSteps.{live-struck, live-at}
use Rattle.gate_downtime.proofs.BookSteps.{turned-entries}
use Rattle.gate_downtime.proofs.AscendingSteps.{same_as}
use Rattle.gate_downtime.proofs.IdSteps.{live-in, flags-push, live-ascending, live-filter}
use Rattle.gate_downtime.proofs.NotedSteps.{ids-noted}

-- ---- what is live after a call was live before

flag-at : (t k : ℕ) (rows : List Row) → k < length rows → get_or (map (live_at t) rows) k false ≡ live_at t (get_or rows k some-row)
flag-at t k rows lt = get_or-map (live_at t) rows k some-row false lt

unmarked : (t : ℕ) (rows : List Row) → map (live_at t) (map (with_active true) rows) ≡ map (live_at t) rows
unmarked t [] = refl
unmarked t (r ∷ rows) = ap (λ flags. live_at t r ∷ flags) (unmarked t rows)

flags-same : (t : ℕ) (xs ys : List Row) → SameButMarks xs ys → map (live_at t) ys ≡ map (live_at t) xs
flags-same t xs ys same = sym (unmarked t ys) ∙ ap (map (live_at t)) same ∙ unmarked t xs

pub live-later : (t now : ℕ) (rows rows' : List Row) → t ≤ now → SameButMarks rows rows'
    → (k : ℕ) → k < length rows' → live_at now (get_or rows' k some-row) ≡ true → live_at t (get_or rows k some-row) ≡ true
live-later t now rows rows' le same k lt on =
    let lt' : k < length rows = omega (arith, lt, length-same _ _ same) in
    earlier (get_or rows k some-row) (sym (flag-at now k rows lt') ∙ sym (ap (λ flags. get_or flags k false) (flags-same now rows rows' same)) ∙ flag-at now k rows' lt ∙ on)
  where
    split : (d b c : Bool) → (b ≡ true → c ≡ true) → (not d && b) ≡ true → (not d && c) ≡ true
    split true b c more e = cc
    split false b c more e = more e

    earlier : (r : Row) → live_at now r ≡ true → live_at t r ≡ true
    earlier r on = split r.entry.deleted (ltb now r.over) (ltb t r.over) (λ e. lt-ltb t r.over (omega (arith, le, ltb-true now r.over e))) on

pub live-struck-before : (t : ℕ) (rows rows' : List Row) → HasStruck rows rows'
    → (k : ℕ) → k < length rows' → live_at t (get_or rows' k some-row) ≡ true → live_at t (get_or rows k some-row) ≡ true
live-struck-before t rows rows' w k lt on =
    let lt' : k < length rows = omega (arith, lt, w.struck.len) in
    split (get_or rows k some-row).entry.deleted (hit_at w.hit k) (ltb t (get_or rows k some-row).over)
    (sym (live-struck t (get_or rows k some-row) (get_or rows' k some-row) (hit_at w.hit k) (w.struck.each k some-row lt')) ∙ on)
  where
    split : (d h b : Bool) → (not (d || h) && b) ≡ true → (not d && b) ≡ true
    split true h b e = cc
    split false true b e = cc
    split false false b e = e

pub live-turned-before : (first : ℕ) (m : Moment) (p : ℕ) (rows rows' : List Row) → Consistent first rows → Consistent first rows' → length rows' ≡ length rows → entry_list rows' ≡ map (after_transition m p) (entry_list rows)
    → (k : ℕ) → k < length rows' → live_at m.0 (get_or rows' k some-row) ≡ true → live_at m.0 (get_or rows k some-row) ≡ true
live-turned-before first m p rows rows' con con' long turned k lt on =
    let lt' : k < length rows = omega (arith, lt, long) in
    let after : is_live_in (map (after_transition m p) (row_entries rows)) m.0 (first + k) ≡ true =
    sym (ap (λ es. is_live_in es m.0 (first + k)) (turned-entries _ _ _ _ turned)) ∙ sym (live-at first m.0 rows' k some-row con' lt) ∙ on in
    split (live_at m.0 (get_or rows k some-row)) refl (live-at first m.0 rows k some-row con lt') after
  where
    split : (b : Bool) → live_at m.0 (get_or rows k some-row) ≡ b → live_at m.0 (get_or rows k some-row) ≡ is_live_in (row_entries rows) m.0 (first + k)
        → is_live_in (map (after_transition m p) (row_entries rows)) m.0 (first + k) ≡ true → live_at m.0 (get_or rows k some-row) ≡ true
    split true is same after = is
    split false is same after = absurd (true≢false (sym after ∙ gone-stays m p m.0 (row_entries rows) (first + k) (omega arith) (sym same ∙ is)))

-- ---- one more row

pub live-push : (first t : ℕ) (r : Row) (rows rows' : List Row) (id : ℕ) → SameButMarks (rows ++ r ∷ []) rows' → id ≡ first + length rows → live_ids first t rows' ≡ cond (live_at t r) (live_ids first t rows ++ id ∷ []) (live_ids first t rows)
live-push first t r rows rows' id same is =
    ap (returned_ids first) (flags-same t (rows ++ r ∷ []) rows' same ∙ map-push rows)
    ∙ flags-push first (map (live_at t) rows) (live_at t r)
    ∙ ap (λ (n : ℕ). cond (live_at t r) (live_ids first t rows ++ n ∷ []) (live_ids first t rows)) (omega (arith, is, length-map rows (live_at t)))
  where
    map-push : (xs : List Row) → map (live_at t) (xs ++ r ∷ []) ≡ map (live_at t) xs ++ live_at t r ∷ []
    map-push [] = refl
    map-push (x ∷ xs) = ap (λ flags. live_at t x ∷ flags) (map-push xs)

-- ---- the entries

kept : (Q : Entry → Bool) (t : ℕ) (f : ℕ → Scheduled) (n : ℕ) (xs : List Row) → ((k : ℕ) → k < length xs → Q (get_or xs k some-row).entry ≡ live_at t (get_or xs k some-row))
    → ((k : ℕ) → k < length xs → f (n + k) ≡ (get_or xs k some-row).entry.scheduled)
    → map f (returned_ids n (map (live_at t) xs)) ≡ map (λ (entry : Entry). entry.scheduled) (filter Q (entry_list xs))
kept Q t f n [] tests gives = refl
kept Q t f n (x ∷ xs) tests gives =
    split (live_at t x) (tests 0 (omega arith))
    (kept Q t f (n + 1) xs (λ k lt. tests (suc k) (omega (arith, lt))) (λ k lt. ap f (let next : (n + 1) + k ≡ n + suc k = omega arith in next) ∙ gives (suc k) (omega (arith, lt))))
  where
    split : (b : Bool) → Q x.entry ≡ b → map f (returned_ids (n + 1) (map (live_at t) xs)) ≡ map (λ (entry : Entry). entry.scheduled) (filter Q (entry_list xs))
        → map f (returned_ids n (b ∷ map (live_at t) xs)) ≡ map (λ (entry : Entry). entry.scheduled) (cond (Q x.entry) (x.entry ∷ filter Q (entry_list xs)) (filter Q (entry_list xs)))
    split true on rest =
        ap (λ (s : Scheduled). s ∷ map f (returned_ids (n + 1) (map (live_at t) xs))) (ap f (let z : n ≡ n + 0 = omega arith in z) ∙ gives 0 (omega arith))
        ∙ ap (λ (ss : List Scheduled). x.entry.scheduled ∷ ss) rest
        ∙ sym (ap (λ b. map (λ (entry : Entry). entry.scheduled) (cond b (x.entry ∷ filter Q (entry_list xs)) (filter Q (entry_list xs)))) on)
    split false off rest = rest ∙ sym (ap (λ b. map (λ (entry : Entry). entry.scheduled) (cond b (x.entry ∷ filter Q (entry_list xs)) (filter Q (entry_list xs)))) off)

pub live-list : (first : ℕ) (m : Moment) (rows : List Row) → Consistent first rows → map (scheduled_at first rows) (live_ids first m.0 rows) ≡ live_entries (row_entries rows) m
live-list first m rows con =
    let Q : Entry → Bool = λ entry. is_live_in (row_entries rows) m.0 entry.scheduled.id in
    kept Q m.0 (scheduled_at first rows) first rows
    (λ k lt. sym (live-is (row_entries rows) m.0 (get_or rows k some-row) (cached first rows con k some-row lt)))
    (λ k lt. ap (λ j. (get_or rows j some-row).entry.scheduled) (let back : (first + k) - first ≡ k = omega arith in back))
    ∙ ap (λ es. map (λ (entry : Entry). entry.scheduled) (filter Q es)) (sym (reverse-reverse (entry_list rows)))

-- ---- a search

position-same : (f g : ℕ → Bool) (from : ℕ) (ids : List ℕ) → ((id : ℕ) → Contains ids id → f id ≡ g id) → position_from f from ids ≡ position_from g from ids
position-same f g from [] same = refl
position-same f g from (id ∷ ids) same =
    ap (λ b. cond b (Some from) (position_from f (from + 1) ids)) (same id (0, omega arith, refl))
    ∙ ap (λ (o : Option ℕ). cond (g id) (Some from) o) (position-same f g (from + 1) ids (λ other has. same other (suc has.0, omega (arith, has.1), has.2)))

pub found-among : (first : ℕ) (m : Moment) (rows : List Row) (id : ℕ) → Consistent first rows → index_among id (live_ids first m.0 rows) ≡ index_of_id id (live_entries (row_entries rows) m)
found-among first m rows id con =
    position-same (same_as id) (λ other. has_id id (scheduled_at first rows other)) 0 (live_ids first m.0 rows)
    (λ other has.
    let h = live-in first m.0 rows other has in
    let k : ℕ = other - first in
    let lt : k < length rows = omega (arith, h.0, h.1) in
    ap (same_as id) (sym ((con k some-row lt).id_is ∙ (let back : first + k ≡ other = omega (arith, h.0) in back))))
    ∙ sym (position_from-map (scheduled_at first rows) (has_id id) 0 (live_ids first m.0 rows))
    ∙ ap (index_of_id id) (live-list first m rows con)

pub live-counted : (first : ℕ) (m : Moment) (rows : List Row) → Consistent first rows → length (live_ids first m.0 rows) ≡ length (live_entries (row_entries rows) m)
live-counted first m rows con = sym (length-map (live_ids first m.0 rows) (scheduled_at first rows)) ∙ ap length (live-list first m rows con)

-- ---- a call, and the removal of what it has ended

pub record AfterCall (first now : ℕ) (rows : List Row) (live : LiveIds) : Type 0 where
  pub ascending : AreAscending live.ids.items
  pub noted : AreNoted (is_live_row first rows now) live
  pub left : filter (is_live_row first rows now) live.ids.items ≡ live_ids first now rows

pub after-call : (first t now : ℕ) (rows rows' : List Row) (before live : LiveIds) → Consistent first rows' → length rows' ≡ length rows
    → ((k : ℕ) → k < length rows' → live_at now (get_or rows' k some-row) ≡ true → live_at t (get_or rows k some-row) ≡ true)
    → before.ids.items ≡ live_ids first t rows → live.ids ≡ before.ids → AllNoted now rows' live → AfterCall first now rows' live
after-call first t now rows rows' before live con long less is same noted =
    let all : live.ids.items ≡ live_ids first t rows = ap (λ ids. ids.items) same ∙ is in
    let P : List ℕ → Type 0 = AreAscending in
    record {
      ascending = subst P (sym all) (live-ascending first t rows);
      noted = ids-noted first t now rows rows' live (λ k d lt. (con k d lt).id_is) long all noted;
      left = ap (filter (is_live_row first rows' now)) all ∙ live-filter first t now rows rows' long less;
    }

-- an id past all rows isn't among the ids
pub not-among : (first t id : ℕ) (rows : List Row) (ids : List ℕ) → ids ≡ live_ids first t rows → id ≡ first + length rows → Contains ids id → ⊥
not-among first t id rows ids all is has =
    let P : List ℕ → Type 0 = λ xs. Contains xs id in
    let h = live-in first t rows id (subst P all has) in
    omega (arith, h.1, is)

pub live-stands : (book : DowntimeView) (entries : List Scheduled) (first : ℕ) (history : List DowntimeEvent) (moment : Moment) → IsStanding first book history moment → entries ≡ live_entries book.entries book.moment → entries ≡ live_of first history moment
live-stands book entries first history moment stands is = is ∙ ap (λ es. live_entries es book.moment) stands.entries_are ∙ ap (live_entries (entries_of first history)) stands.moment_is
