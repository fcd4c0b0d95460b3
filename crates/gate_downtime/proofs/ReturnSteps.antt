-- Which ids were returned, and the least that is to be.
use Rattle.std.proofs.Common.{◌≡◌, ℕ, zero, suc, ◌+◌, ◌-◌, ◌≤◌, ◌<◌, Bool, true, false, cond, not, ◌&&◌, ◌||◌, List, [], ◌∷◌, ◌++◌, map, set, get_or, length, Option, refl, sym, ap, ◌∙◌, subst, arith, inl, inr, eqb, length-set, get_or-set_same, get_or-set_other}
use Rattle.std.specs.Prelude.{Some, None, find, option_map}
use Rattle.std.proofs.lemmas.Bool.{cases_lt, cases_eq, eq-eqb, ne_eqb}
use Rattle.std.proofs.lemmas.List.{get_or-map, length-map, reverse-reverse}
use Rattle.gate_model.specs.declared.record.Moment.{Moment}
use Rattle.gate_model.specs.declared.downtime.Entry.{Entry}
use Rattle.gate_model.specs.Downtime.{is_live_in}
use Rattle.gate_downtime.specs.declared.row.Row.{Row}
use Rattle.gate_downtime.specs.declared.gone.Mark.{Mark}
use Rattle.gate_downtime.specs.declared.gone.Gone.{Gone}
use Rattle.gate_downtime.specs.Book.{was_returned, next_gone_of}
use Rattle.gate_downtime.specs.inner.Rows.{row_entries, live_at, Consistent, some-row}
use Rattle.gate_downtime.specs.inner.Gone.{is_returned, returned_ids, AllPassed, TakesGone}
use Rattle.gate_downtime.specs.inner.Walk.{entry_list}
use Rattle.gate_downtime.proofs.Cached.{cached}
use Rattle.gate_downtime.proofs.LiveSteps.{live-is}
use Rattle.gate_downtime.proofs.GoneSteps.{some-mark}

returned-low : (first x : ℕ) (flags : List Bool) → x < first → was_returned (returned_ids first flags) x ≡ false
returned-low first x [] lt = refl
returned-low first x (true ∷ flags) lt = ap (λ b. b || was_returned (returned_ids (first + 1) flags) x) (ne_eqb first x (λ z. omega (arith, z, lt))) ∙ returned-low (first + 1) x flags (omega (arith, lt))
returned-low first x (false ∷ flags) lt = returned-low (first + 1) x flags (omega (arith, lt))

returned-high : (first x : ℕ) (flags : List Bool) → first + length flags ≤ x → was_returned (returned_ids first flags) x ≡ false
returned-high first x [] le = refl
returned-high first x (true ∷ flags) le =
    ap (λ b. b || was_returned (returned_ids (first + 1) flags) x) (ne_eqb first x (λ z. omega (arith, z, le))) ∙ returned-high (first + 1) x flags (omega (arith, le))
returned-high first x (false ∷ flags) le = returned-high (first + 1) x flags (omega (arith, le))

returned-at-id : (first k : ℕ) (flags : List Bool) → k < length flags → was_returned (returned_ids first flags) (first + k) ≡ get_or flags k false
returned-at-id first k [] lt = absurd (omega (arith, lt))
returned-at-id first zero (true ∷ flags) lt = ap (λ b. b || was_returned (returned_ids (first + 1) flags) (first + 0)) (eq-eqb first (first + 0) (omega arith))
returned-at-id first zero (false ∷ flags) lt = returned-low (first + 1) (first + 0) flags (omega arith)
returned-at-id first (suc k) (true ∷ flags) lt =
    ap (λ b. b || was_returned (returned_ids (first + 1) flags) (first + suc k)) (ne_eqb first (first + suc k) (λ z. omega (arith, z)))
    ∙ ap (was_returned (returned_ids (first + 1) flags)) (let next : first + suc k ≡ (first + 1) + k = omega arith in next) ∙ returned-at-id (first + 1) k flags (omega (arith, lt))
returned-at-id first (suc k) (false ∷ flags) lt =
    ap (was_returned (returned_ids (first + 1) flags)) (let next : first + suc k ≡ (first + 1) + k = omega arith in next) ∙ returned-at-id (first + 1) k flags (omega (arith, lt))

pub returned-push : (first : ℕ) (flags : List Bool) → returned_ids first (flags ++ false ∷ []) ≡ returned_ids first flags
returned-push first [] = refl
returned-push first (true ∷ flags) = ap (λ ids. first ∷ ids) (returned-push (first + 1) flags)
returned-push first (false ∷ flags) = returned-push (first + 1) flags

-- ---- the least

find-first : (test : Entry → Bool) (es : List Entry) (k : ℕ) (d : Entry) → k < length es → test (get_or es k d) ≡ true → ((j : ℕ) → j < k → test (get_or es j d) ≡ false) → find test es ≡ Some (get_or es k d)
find-first test [] k d lt on off = absurd (omega (arith, lt))
find-first test (e ∷ es) zero d lt on off = ap (λ b. cond b (Some e) (find test es)) on
find-first test (e ∷ es) (suc k) d lt on off =
    ap (λ b. cond b (Some e) (find test es)) (off 0 (omega arith)) ∙ find-first test es k d (omega (arith, lt)) on (λ j low. off (suc j) (omega (arith, low)))

find-never : (test : Entry → Bool) (es : List Entry) (d : Entry) → ((j : ℕ) → j < length es → test (get_or es j d) ≡ false) → find test es ≡ None
find-never test [] d off = refl
find-never test (e ∷ es) d off = ap (λ b. cond b (Some e) (find test es)) (off 0 (omega arith)) ∙ find-never test es d (λ j low. off (suc j) (omega (arith, low)))

abbrev pub flags_of : Gone → List Bool
flags_of gone = map is_returned gone.marks.items

-- the test of a row
test-at : (first now : ℕ) (rows : List Row) (gone : Gone) → Consistent first rows → length gone.marks.items ≡ length rows → (k : ℕ) (d : Row) (m : Mark) → k < length rows
    → (not (is_live_in (row_entries rows) now (get_or rows k d).entry.scheduled.id) && not (was_returned (returned_ids first (flags_of gone)) (get_or rows k d).entry.scheduled.id)) ≡ not (live_at now (get_or rows k d) || (get_or gone.marks.items k m).returned)
test-at first now rows gone con long k d m lt =
    let id : (get_or rows k d).entry.scheduled.id ≡ first + k = (con k d lt).id_is in
    let low : k < length gone.marks.items = omega (arith, lt, long) in
    ap (λ b. not b && not (was_returned (returned_ids first (flags_of gone)) (get_or rows k d).entry.scheduled.id)) (sym (live-is (row_entries rows) now (get_or rows k d) (cached first rows con k d lt)))
    ∙ ap (λ b. not (live_at now (get_or rows k d)) && not b)
    (ap (was_returned (returned_ids first (flags_of gone))) id ∙ returned-at-id first k (flags_of gone) (omega (arith, low, length-map gone.marks.items is_returned)) ∙ get_or-map is_returned gone.marks.items k m false low)
    ∙ both (live_at now (get_or rows k d)) (get_or gone.marks.items k m).returned
  where
    both : (a b : Bool) → (not a && not b) ≡ not (a || b)
    both true b = refl
    both false b = refl

row-test : (first now : ℕ) (rows : List Row) (gone : Gone) → Consistent first rows → length gone.marks.items ≡ length rows → (k : ℕ) → k < length (entry_list rows)
    → (let test : Entry → Bool = λ (entry : Entry). not (is_live_in (row_entries rows) now entry.scheduled.id) && not (was_returned (returned_ids first (flags_of gone)) entry.scheduled.id) in test (get_or (entry_list rows) k some-row.entry)) ≡ not (live_at now (get_or rows k some-row) || (get_or gone.marks.items k some-mark).returned)
row-test first now rows gone con long k lt =
    let low : k < length rows = omega (arith, lt, length-map rows (λ (r : Row). r.entry)) in
    let test : Entry → Bool = λ (entry : Entry). not (is_live_in (row_entries rows) now entry.scheduled.id) && not (was_returned (returned_ids first (flags_of gone)) entry.scheduled.id) in
    ap test (get_or-map (λ (r : Row). r.entry) rows k some-row some-row.entry low) ∙ test-at first now rows gone con long k some-row some-mark low

pub none-gone : (first : ℕ) (now : Moment) (rows : List Row) (gone : Gone) → Consistent first rows → length gone.marks.items ≡ length rows → AllPassed now.0 rows gone (length rows)
    → ◌≡◌ {A = Option ℕ} None (next_gone_of (row_entries rows) now (returned_ids first (flags_of gone)))
none-gone first now rows gone con long passed =
    let test : Entry → Bool = λ (entry : Entry). not (is_live_in (row_entries rows) now.0 entry.scheduled.id) && not (was_returned (returned_ids first (flags_of gone)) entry.scheduled.id) in
    sym (ap (λ es. option_map (λ (entry : Entry). entry.scheduled.id) (find test es)) (reverse-reverse (entry_list rows))
    ∙ ap (option_map (λ (entry : Entry). entry.scheduled.id))
    (find-never test (entry_list rows) some-row.entry (λ j lt. row-test first now.0 rows gone con long j lt ∙ ap not (passed j some-row some-mark (omega (arith, lt, length-map rows (λ (r : Row). r.entry)))))))

pub one-gone : (first : ℕ) (now : Moment) (at : ℕ) (d : Row) (rows : List Row) (old new : Gone) → Consistent first rows → length old.marks.items ≡ length rows → TakesGone now.0 rows at old new
    → ◌≡◌ {A = Option ℕ} (Some (get_or rows at d).entry.scheduled.id) (next_gone_of (row_entries rows) now (returned_ids first (flags_of old)))
one-gone first now at d rows old new con long takes =
    let test : Entry → Bool = λ (entry : Entry). not (is_live_in (row_entries rows) now.0 entry.scheduled.id) && not (was_returned (returned_ids first (flags_of old)) entry.scheduled.id) in
    let in' : at < length (entry_list rows) = omega (arith, takes.within, length-map rows (λ (r : Row). r.entry)) in
    sym (ap (λ es. option_map (λ (entry : Entry). entry.scheduled.id) (find test es)) (reverse-reverse (entry_list rows))
    ∙ ap (option_map (λ (entry : Entry). entry.scheduled.id))
    (find-first test (entry_list rows) at some-row.entry in' (row-test first now.0 rows old con long at in' ∙ ap not (ap (λ b. b || (get_or old.marks.items at some-mark).returned) (takes.dead some-row) ∙ takes.fresh some-mark))
    (λ j lt. row-test first now.0 rows old con long j (omega (arith, lt, in')) ∙ ap not (takes.before j some-row some-mark lt)))
    ∙ ap (λ (entry : Entry). Some entry.scheduled.id) (get_or-map (λ (r : Row). r.entry) rows at d some-row.entry takes.within))

-- the ids that were returned, with one more
pub returned-more : (first at : ℕ) (old new : Gone) → at < length old.marks.items → flags_of new ≡ set (flags_of old) at true → (id : ℕ) → was_returned (returned_ids first (flags_of new)) id ≡ (was_returned (returned_ids first (flags_of old)) id || eqb (first + at) id)
returned-more first at old new in' is id =
    ap (λ fs. was_returned (returned_ids first fs) id) is
    ∙ (elim (cases_lt id first) [
      | inl low ↦ returned-low first id (set (flags_of old) at true) low ∙ sym (ap (λ b. b || eqb (first + at) id) (returned-low first id (flags_of old) low) ∙ ne_eqb (first + at) id (λ z. omega (arith, z, low)))
      | inr from ↦ elim (cases_lt id (first + length (flags_of old))) [
        | inr high ↦
            returned-high first id (set (flags_of old) at true) (omega (arith, high, length-set (flags_of old) at true))
            ∙ sym (ap (λ b. b || eqb (first + at) id) (returned-high first id (flags_of old) high) ∙ ne_eqb (first + at) id (λ z. omega (arith, z, high, in', length-map old.marks.items is_returned)))
        | inl below ↦
            let k : ℕ = id - first in
            let back : first + k ≡ id = omega (arith, from) in
            let lt : k < length (flags_of old) = omega (arith, from, below) in
            let P : ℕ → Type 0 = λ i. was_returned (returned_ids first (set (flags_of old) at true)) i ≡ (was_returned (returned_ids first (flags_of old)) i || eqb (first + at) i) in
            subst P back
            (returned-at-id first k (set (flags_of old) at true) (omega (arith, lt, length-set (flags_of old) at true))
            ∙ (elim (cases_eq k at) [
              | inl same ↦
                  ap (λ i. get_or (set (flags_of old) at true) i false) same ∙ get_or-set_same (flags_of old) at true false (omega (arith, lt, same))
                  ∙ sym (ap (λ b. was_returned (returned_ids first (flags_of old)) (first + k) || b) (eq-eqb (first + at) (first + k) (omega (arith, same))) ∙ or-true (was_returned (returned_ids first (flags_of old)) (first + k)))
              | inr ne ↦
                  get_or-set_other (flags_of old) at k true false ne ∙ sym (returned-at-id first k (flags_of old) lt)
                  ∙ sym (ap (λ b. was_returned (returned_ids first (flags_of old)) (first + k) || b) (ne_eqb (first + at) (first + k) (λ z. ne (omega (arith, z)))) ∙ or-false (was_returned (returned_ids first (flags_of old)) (first + k)))
            ]))
      ]
    ])
  where
    or-true : (b : Bool) → (b || true) ≡ true
    or-true true = refl
    or-true false = refl

    or-false : (b : Bool) → (b || false) ≡ b
    or-false true = refl
    or-false false = refl
