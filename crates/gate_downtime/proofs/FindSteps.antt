-- The entry of an id among the entries, and the answers of a deletion.
use Rattle.std.proofs.Common.{◌≡◌, ℕ, zero, suc, ◌+◌, ◌≤◌, ◌<◌, Bool, true, false, cond, ◌&&◌, List, [], ◌∷◌, take, get_or, length, Option, refl, sym, ap, ◌∙◌, subst, arith, inl, inr, eqb, add-one}
use Rattle.std.specs.Prelude.{Some, None, Result, Ok, Err, find, option_map}
use Rattle.std.proofs.lemmas.Bool.{cases_eq, eq-eqb, ne_eqb}
use Rattle.std.proofs.lemmas.List.{take_all}
use Rattle.gate_model.specs.declared.object.Kind.{Kind}
use Rattle.gate_model.specs.declared.object.ObjectId.{ObjectId}
use Rattle.gate_model.specs.declared.downtime.Entry.{Entry}
use Rattle.gate_model.specs.Meaning.{is_same_kind}
use Rattle.gate_downtime.specs.declared.row.Row.{Row}
use Rattle.gate_downtime.specs.declared.faults.CancelFault.{CancelFault}
use Rattle.gate_downtime.specs.declared.faults.CancelFault.TheVariants.{NoSuchDowntime, WrongKind}
use Rattle.gate_downtime.specs.Book.{DowntimeView, is_live_now}
use Rattle.gate_downtime.specs.Faults.{cancellation_by_id}
use Rattle.gate_downtime.specs.inner.Rows.{row_entries, Consistent}
use Rattle.gate_downtime.proofs.Cached.{entries-take}

-- the test of an entry: it has this id and is live
abbrev Test : (ℕ → Bool) → ℕ → Entry → Bool
Test live x one = eqb one.scheduled.id x && live one.scheduled.id

test-other : (live : ℕ → Bool) (x : ℕ) (e : Entry) → (e.scheduled.id ≡ x → ⊥) → Test live x e ≡ false
test-other live x e ne = ap (λ b. b && live e.scheduled.id) (ne_eqb e.scheduled.id x ne)

test-dead : (live : ℕ → Bool) (x : ℕ) (e : Entry) → live x ≡ false → Test live x e ≡ false
test-dead live x e off =
    elim (cases_eq e.scheduled.id x) [
      | inl same ↦ ap (λ b. b && live e.scheduled.id) (eq-eqb e.scheduled.id x same) ∙ ap live same ∙ off
      | inr ne ↦ test-other live x e ne
    ]

find-none : (live : ℕ → Bool) (x : ℕ) (es : List Entry) → live x ≡ false → find (Test live x) es ≡ None
find-none live x [] off = refl
find-none live x (e ∷ es) off = ap (λ b. cond b (Some e) (find (Test live x) es)) (test-dead live x e off) ∙ find-none live x es off

find-upto : (first : ℕ) (live : ℕ → Bool) (rows : List Row) (k : ℕ) (d : Row) → Consistent first rows → k < length rows → live (first + k) ≡ true
    → (n : ℕ) → n ≤ length rows → k < n → find (Test live (first + k)) (row_entries (take n rows)) ≡ Some (get_or rows k d).entry
find-upto first live rows k d con in' on zero le lt = absurd (omega (arith, lt))
find-upto first live rows k d con in' on (suc n) le lt =
    let e : Entry = (get_or rows n d).entry in
    let id : e.scheduled.id ≡ first + n = (con n d (omega (arith, le))).id_is in
    let P : ℕ → Type 0 = λ m. find (Test live (first + k)) (row_entries (take m rows)) ≡ Some (get_or rows k d).entry in
    let Q : List Entry → Type 0 = λ es. find (Test live (first + k)) es ≡ Some (get_or rows k d).entry in
    subst P (add-one n) (subst Q (sym (entries-take rows n d (omega (arith, le))))
    (elim (cases_eq k n) [
      | inl same ↦
          let is : e.scheduled.id ≡ first + k = omega (arith, id, same) in
          let test : Test live (first + k) e ≡ true = ap (λ b. b && live e.scheduled.id) (eq-eqb e.scheduled.id (first + k) is) ∙ ap live is ∙ on in
          ap (λ b. cond b (Some e) (find (Test live (first + k)) (row_entries (take n rows)))) test ∙ ap (λ i. Some (get_or rows i d).entry) (sym same)
      | inr ne ↦
          ap (λ b. cond b (Some e) (find (Test live (first + k)) (row_entries (take n rows)))) (test-other live (first + k) e (λ z. ne (omega (arith, z, id))))
          ∙ find-upto first live rows k d con in' on n (omega (arith, le)) (omega (arith, lt, ne))
    ]))

find-at : (first : ℕ) (live : ℕ → Bool) (rows : List Row) (k : ℕ) (d : Row) → Consistent first rows → k < length rows → live (first + k) ≡ true → find (Test live (first + k)) (row_entries rows) ≡ Some (get_or rows k d).entry
find-at first live rows k d con in' on =
    let P : List Row → Type 0 = λ xs. find (Test live (first + k)) (row_entries xs) ≡ Some (get_or rows k d).entry in
    subst P (take_all (length rows) rows (omega arith)) (find-upto first live rows k d con in' on (length rows) (omega arith) in')

abbrev Answer : Type 0
Answer = Result (Unit {0}) CancelFault

abbrev answer : Kind → Option ObjectId → Answer
answer kind None = Err NoSuchDowntime
answer kind (Some object) = cond (is_same_kind kind object.kind) (Ok tt) (Err WrongKind)

pub no-downtime : (kind : Kind) (id : ℕ) (book : DowntimeView) → is_live_now book id ≡ false → ◌≡◌ {A = Answer} (Err NoSuchDowntime) (cancellation_by_id kind id book)
no-downtime kind id book off = sym (ap (λ o. answer kind (option_map (λ (one : Entry). one.scheduled.object) o)) (find-none (is_live_now book) id book.entries off))

object-is : (kind : Kind) (first id k : ℕ) (d : Row) (rows : List Row) (book : DowntimeView) → book.entries ≡ row_entries rows → Consistent first rows → k < length rows → first + k ≡ id → is_live_now book id ≡ true
    → cancellation_by_id kind id book ≡ answer kind (Some (get_or rows k d).entry.scheduled.object)
object-is kind first id k d rows book entries con in' is on =
    ap (λ o. answer kind (option_map (λ (one : Entry). one.scheduled.object) o))
    (ap (find (Test (is_live_now book) id)) entries ∙ ap (λ x. find (Test (is_live_now book) x) (row_entries rows)) (sym is) ∙ find-at first (is_live_now book) rows k d con in' (ap (is_live_now book) is ∙ on))

pub other-kind : (kind : Kind) (first id k : ℕ) (d : Row) (rows : List Row) (book : DowntimeView) → book.entries ≡ row_entries rows → Consistent first rows → k < length rows → first + k ≡ id → is_live_now book id ≡ true
    → is_same_kind kind (get_or rows k d).entry.scheduled.object.kind ≡ false → ◌≡◌ {A = Answer} (Err WrongKind) (cancellation_by_id kind id book)
other-kind kind first id k d rows book entries con in' is on other =
    sym (object-is kind first id k d rows book entries con in' is on ∙ ap (λ b. let a : Answer = cond b (Ok tt) (Err WrongKind) in a) other)

pub own-kind : (kind : Kind) (first id k : ℕ) (d : Row) (rows : List Row) (book : DowntimeView) → book.entries ≡ row_entries rows → Consistent first rows → k < length rows → first + k ≡ id → is_live_now book id ≡ true
    → is_same_kind kind (get_or rows k d).entry.scheduled.object.kind ≡ true → ◌≡◌ {A = Answer} (Ok tt) (cancellation_by_id kind id book)
own-kind kind first id k d rows book entries con in' is on own =
    sym (object-is kind first id k d rows book entries con in' is on ∙ ap (λ b. let a : Answer = cond b (Ok tt) (Err WrongKind) in a) own)
