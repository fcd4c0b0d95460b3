-- Which rows are live, and the answers that depend on it.
use Rattle.std.proofs.Common.{◌≡◌, ℕ, zero, suc, ◌+◌, ◌-◌, ◌≤◌, ◌<◌, Bool, true, false, cond, not, ◌&&◌, ◌||◌, List, take, get_or, length, Option, refl, sym, ap, ◌∙◌, subst, arith, ◌⊎◌, inl, inr, eqb, ltb, leb, add-one}
use Rattle.std.specs.Prelude.{None, nat_le, Result, Ok, Err}
use Rattle.std.proofs.lemmas.Bool.{cases_lt, ne_eqb, lt-ltb, le-ltb, le-leb, lt-leb}
use Rattle.std.proofs.lemmas.List.{take_all}
use Rattle.gate_model.specs.declared.downtime.Entry.{Entry}
use Rattle.gate_model.specs.declared.downtime.Plan.{Plan}
use Rattle.gate_model.specs.Downtime.{begin_in, over_in, is_live_in, is_deleted_in, is_before}
use Rattle.gate_model.proofs.DowntimeSteps.{begin_in-other, over_in-other}
use Rattle.gate_downtime.specs.declared.row.Row.{Row}
use Rattle.gate_downtime.specs.declared.faults.ScheduleFault.{ScheduleFault}
use Rattle.gate_downtime.specs.declared.faults.ScheduleFault.TheVariants.{BadWindow, WindowPast, NoSuchTrigger, IdsSpent}
use Rattle.gate_downtime.specs.Book.{DowntimeView, next_id, is_live_now}
use Rattle.gate_downtime.specs.Faults.{scheduling_of}
use Rattle.gate_downtime.specs.inner.Rows.{row_entries, live_at, is_live_row, begin_of_row, some-row, IsCached, Consistent}
use Rattle.gate_downtime.proofs.Cached.{cached, entries-take}

-- no entry has an id that was never given
over-none-upto : (first x : ℕ) (rows : List Row) → Consistent first rows → (x < first) ⊎ (first + length rows ≤ x) → (n : ℕ) → n ≤ length rows → over_in (row_entries (take n rows)) x ≡ None
over-none-upto first x rows con out zero le = refl
over-none-upto first x rows con out (suc n) le =
    let P : ℕ → Type 0 = λ m. over_in (row_entries (take m rows)) x ≡ None in
    let Q : List Entry → Type 0 = λ es. over_in es x ≡ None in
    let id : (get_or rows n some-row).entry.scheduled.id ≡ first + n = (con n some-row (omega (arith, le))).id_is in
    let other : eqb (get_or rows n some-row).entry.scheduled.id x ≡ false = ne_eqb _ x (λ z. elim out [ inl low ↦ omega (arith, z, id, low) | inr high ↦ omega (arith, z, id, high, le) ]) in
    subst P (add-one n)
    (subst Q (sym (entries-take rows n some-row (omega (arith, le))))
    (over_in-other (get_or rows n some-row).entry (row_entries (take n rows)) x other ∙ over-none-upto first x rows con out n (omega (arith, le))))

over-none : (first x : ℕ) (rows : List Row) → Consistent first rows → (x < first) ⊎ (first + length rows ≤ x) → over_in (row_entries rows) x ≡ None
over-none first x rows con out =
    let P : List Row → Type 0 = λ xs. over_in (row_entries xs) x ≡ None in
    subst P (take_all (length rows) rows (omega arith)) (over-none-upto first x rows con out (length rows) (omega arith))

and-false : (b : Bool) → (b && false) ≡ false
and-false true = refl
and-false false = refl

begin-none-upto : (first x : ℕ) (rows : List Row) → Consistent first rows → (x < first) ⊎ (first + length rows ≤ x) → (n : ℕ) → n ≤ length rows → begin_in (row_entries (take n rows)) x ≡ None
begin-none-upto first x rows con out zero le = refl
begin-none-upto first x rows con out (suc n) le =
    let P : ℕ → Type 0 = λ m. begin_in (row_entries (take m rows)) x ≡ None in
    let Q : List Entry → Type 0 = λ es. begin_in es x ≡ None in
    let id : (get_or rows n some-row).entry.scheduled.id ≡ first + n = (con n some-row (omega (arith, le))).id_is in
    let other : eqb (get_or rows n some-row).entry.scheduled.id x ≡ false = ne_eqb _ x (λ z. elim out [ inl low ↦ omega (arith, z, id, low) | inr high ↦ omega (arith, z, id, high, le) ]) in
    subst P (add-one n)
    (subst Q (sym (entries-take rows n some-row (omega (arith, le))))
    (begin_in-other (get_or rows n some-row).entry (row_entries (take n rows)) x other ∙ begin-none-upto first x rows con out n (omega (arith, le))))

begin-none : (first x : ℕ) (rows : List Row) → Consistent first rows → (x < first) ⊎ (first + length rows ≤ x) → begin_in (row_entries rows) x ≡ None
begin-none first x rows con out =
    let P : List Row → Type 0 = λ xs. begin_in (row_entries xs) x ≡ None in
    subst P (take_all (length rows) rows (omega arith)) (begin-none-upto first x rows con out (length rows) (omega arith))

-- a row keeps the beginning of its entry
pub begin-row : (first x : ℕ) (rows : List Row) → Consistent first rows → begin_of_row first rows x ≡ begin_in (row_entries rows) x
begin-row first x rows con =
    let begun : Option ℕ = (get_or rows (x - first) some-row).begun in
    elim (cases_lt x first) [
      | inl low ↦ ap (λ b. cond (b && ltb x (first + length rows)) begun None) (lt-leb first x low) ∙ sym (begin-none first x rows con (inl low))
      | inr from ↦ elim (cases_lt x (first + length rows)) [
        | inr high ↦
            ap (λ b. cond (leb first x && b) begun None) (le-ltb x (first + length rows) high) ∙ ap (λ b. cond b begun None) (and-false (leb first x))
            ∙ sym (begin-none first x rows con (inr high))
        | inl below ↦
            let k : ℕ = x - first in
            let in' : k < length rows = omega (arith, from, below) in
            let id : (get_or rows k some-row).entry.scheduled.id ≡ x = (con k some-row in').id_is ∙ omega (arith, from) in
            ap (λ b. cond (b && ltb x (first + length rows)) begun None) (le-leb first x from) ∙ ap (λ b. cond (true && b) begun None) (lt-ltb x (first + length rows) below)
            ∙ (cached first rows con k some-row in').begun_is ∙ ap (begin_in (row_entries rows)) id
      ]
    ]

-- a row is live exactly where its entry is
pub live-is : (es : List Entry) (t : ℕ) (r : Row) → IsCached es r → live_at t r ≡ is_live_in es t r.entry.scheduled.id
live-is es t r c =
    ap (λ x. not x && ltb t r.over) c.deleted_is
    ∙ ap (λ x. not (is_deleted_in es r.entry.scheduled.id) && is_before t x) c.over_is

pub live-row : (first t x : ℕ) (rows : List Row) → Consistent first rows → is_live_row first rows t x ≡ is_live_in (row_entries rows) t x
live-row first t x rows con =
    let es : List Entry = row_entries rows in
    elim (cases_lt x first) [
      | inl low ↦
          ap (λ b. (b && ltb x (first + length rows)) && live_at t (get_or rows (x - first) some-row)) (lt-leb first x low)
          ∙ sym (ap (λ o. not (is_deleted_in es x) && is_before t o) (over-none first x rows con (inl low)) ∙ and-false (not (is_deleted_in es x)))
      | inr from ↦ elim (cases_lt x (first + length rows)) [
        | inr high ↦
            ap (λ b. (leb first x && b) && live_at t (get_or rows (x - first) some-row)) (le-ltb x (first + length rows) high)
            ∙ ap (λ b. b && live_at t (get_or rows (x - first) some-row)) (and-false (leb first x))
            ∙ sym (ap (λ o. not (is_deleted_in es x) && is_before t o) (over-none first x rows con (inr high)) ∙ and-false (not (is_deleted_in es x)))
        | inl below ↦
            let k : ℕ = x - first in
            let in' : k < length rows = omega (arith, from, below) in
            let id : (get_or rows k some-row).entry.scheduled.id ≡ x = (con k some-row in').id_is ∙ omega (arith, from) in
            ap (λ b. (b && ltb x (first + length rows)) && live_at t (get_or rows k some-row)) (le-leb first x from)
            ∙ ap (λ b. (true && b) && live_at t (get_or rows k some-row)) (lt-ltb x (first + length rows) below)
            ∙ live-is es t (get_or rows k some-row) (cached first rows con k some-row in')
            ∙ ap (is_live_in es t) id
      ]
    ]

-- the answers to a schedule
abbrev Answer : Type 0
Answer = Result ℕ ScheduleFault

third : (a b c d : Bool) (w : Answer) → a ≡ false → b ≡ false → c ≡ false
    → ◌≡◌ {A = Answer} (Err NoSuchTrigger) (cond a (Err BadWindow) (cond b (Err WindowPast) (cond (not c) (Err NoSuchTrigger) (cond d (Err IdsSpent) w))))
third false false false d w x y z = refl
third true b c d w x y z = cc
third false true c d w x y z = cc
third false false true d w x y z = cc

fourth : (a b c d : Bool) (w : Answer) → a ≡ false → b ≡ false → c ≡ true → d ≡ true
    → ◌≡◌ {A = Answer} (Err IdsSpent) (cond a (Err BadWindow) (cond b (Err WindowPast) (cond (not c) (Err NoSuchTrigger) (cond d (Err IdsSpent) w))))
fourth false false true true w x y z u = refl
fourth true b c d w x y z u = cc
fourth false true c d w x y z u = cc
fourth false false false d w x y z u = cc
fourth false false true false w x y z u = cc

last : (a b c d : Bool) (w : Answer) → a ≡ false → b ≡ false → c ≡ true → d ≡ false
    → w ≡ cond a (Err BadWindow) (cond b (Err WindowPast) (cond (not c) (Err NoSuchTrigger) (cond d (Err IdsSpent) w)))
last false false true false w x y z u = refl
last true b c d w x y z u = cc
last false true c d w x y z u = cc
last false false false d w x y z u = cc
last false false true true w x y z u = cc

pub no-trigger : (plan : Plan) (book : DowntimeView) → plan.starts.0 < plan.ends.0 → book.moment.0 < plan.ends.0 → (eqb plan.trigger 0 || is_live_now book plan.trigger) ≡ false
    → ◌≡◌ {A = Answer} (Err NoSuchTrigger) (scheduling_of plan book)
no-trigger plan book a b c = third (nat_le plan.ends.0 plan.starts.0) (nat_le plan.ends.0 book.moment.0) (eqb plan.trigger 0 || is_live_now book plan.trigger) (nat_le 4294967296 (next_id book)) (Ok (next_id book)) (lt-leb plan.ends.0 plan.starts.0 a) (lt-leb plan.ends.0 book.moment.0 b) c

pub ids-spent : (plan : Plan) (book : DowntimeView) → plan.starts.0 < plan.ends.0 → book.moment.0 < plan.ends.0 → (eqb plan.trigger 0 || is_live_now book plan.trigger) ≡ true → 4294967296 ≤ next_id book
    → ◌≡◌ {A = Answer} (Err IdsSpent) (scheduling_of plan book)
ids-spent plan book a b c d = fourth (nat_le plan.ends.0 plan.starts.0) (nat_le plan.ends.0 book.moment.0) (eqb plan.trigger 0 || is_live_now book plan.trigger) (nat_le 4294967296 (next_id book)) (Ok (next_id book)) (lt-leb plan.ends.0 plan.starts.0 a) (lt-leb plan.ends.0 book.moment.0 b) c (le-leb 4294967296 (next_id book) d)

pub id-given : (plan : Plan) (book : DowntimeView) (id : ℕ) → plan.starts.0 < plan.ends.0 → book.moment.0 < plan.ends.0 → (eqb plan.trigger 0 || is_live_now book plan.trigger) ≡ true → next_id book < 4294967296 → id ≡ next_id book
    → ◌≡◌ {A = Answer} (Ok id) (scheduling_of plan book)
id-given plan book id a b c d is =
    ap (λ (n : ℕ). let w : Answer = Ok n in w) is
    ∙ last (nat_le plan.ends.0 plan.starts.0) (nat_le plan.ends.0 book.moment.0) (eqb plan.trigger 0 || is_live_now book plan.trigger) (nat_le 4294967296 (next_id book)) (Ok (next_id book)) (lt-leb plan.ends.0 plan.starts.0 a) (lt-leb plan.ends.0 book.moment.0 b) c (lt-leb 4294967296 (next_id book) d)
