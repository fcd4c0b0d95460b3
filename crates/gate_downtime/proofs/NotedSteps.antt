-- The rows that a call has ended are noted, and their ids removed.
use Rattle.std.proofs.Common.{◌≡◌, ◌≢◌, ℕ, zero, suc, ◌+◌, ◌-◌, ◌<◌, ◌≤◌, Bool, true, false, not, ◌&&◌, List, [], ◌∷◌, ◌++◌, get_or, set, length, refl, sym, ap, ◌∙◌, subst, arith, ◌⊎◌, inl, inr}
use Rattle.std.specs.Prelude.{All, Contains, filter}
use Rattle.std.specs.List.Sorted.{IsPermutation}
use Rattle.std.specs.declared.cmp.Reverse.{Reverse}
use Rattle.std.proofs.lemmas.Bool.{true≢false}
use Rattle.std.proofs.lemmas.List.{get_or_default, get_or_append_left, length_push}
use Rattle.std.proofs.lemmas.List.Elements.{Contains-append_cases}
use Rattle.std.proofs.lemmas.List.Sorted.{Contains-permutation}
use Rattle.gate_downtime.specs.declared.row.Row.{Row}
use Rattle.gate_downtime.specs.declared.live.LiveIds.{LiveIds}
use Rattle.gate_downtime.specs.inner.Rows.{live_at, is_live_row, some-row, with_active, Deadlines, Awake, IsDue}
use Rattle.gate_downtime.specs.inner.Live.{IsNoted, Notes, IsRowNoted, AllNoted, NotedOrDue, AreNoted, IsFresh, live_ids}
use Rattle.gate_downtime.proofs.Fresh.{set-cases}
use Rattle.gate_downtime.proofs.Settling.{not-first, live-or-due, never-due}
use Rattle.gate_downtime.proofs.IdSteps.{filter-all, live-of, live-in, live-id}

-- ---- removing

-- an id was taken off the list of those that ended, and isn't among the ids any more if its row isn't live
pub noted-pop : (is_live : ℕ → Bool) (old new : LiveIds) (id : ℕ) → old.many ≡ false → old.ended.items ≡ new.ended.items ++ id ∷ []
    → ((other : ℕ) → Contains new.ids.items other → is_live other ≡ false → Contains old.ids.items other × (other ≢ id)) → AreNoted is_live old → AreNoted is_live new
noted-pop is_live old new id few is among noted other has off =
    let h = among other has off in
    elim (noted other h.0 off) [
      | inl many ↦ absurd (true≢false (sym many ∙ few))
      | inr ended ↦
          let P : List ℕ → Type 0 = λ xs. Contains xs other in
          elim (Contains-append_cases new.ended.items (id ∷ []) other (subst P is ended)) [
            | inl rest ↦ inr rest
            | inr one ↦ absurd (h.1 (only one.0 one.1 one.2))
          ]
    ]
  where
    only : (k : ℕ) → k < length (id ∷ []) → get_or (id ∷ []) k other ≡ other → other ≡ id
    only zero lt is = sym is
    only (suc k) lt is = absurd (omega (arith, lt))

-- nothing is noted, so all are live
pub noted-none : (is_live : ℕ → Bool) (live : LiveIds) → live.many ≡ false → length live.ended.items ≡ 0 → AreNoted is_live live → live.ids.items ≡ filter is_live live.ids.items
noted-none is_live live few none noted =
    filter-all is_live live.ids.items (λ id has off. elim (noted id has off) [
      | inl many ↦ true≢false (sym many ∙ few)
      | inr ended ↦ omega (arith, ended.1, none)
    ])

-- ---- noting

-- a row stays noted
noted-keep : (t : ℕ) (r : Row) (id : ℕ) (ended : Bool) (old new : LiveIds) → Notes id ended old new → IsRowNoted t old r → IsRowNoted t new r
noted-keep t r id ended old new notes noted off has =
    let P : List ℕ → Type 0 = λ ids. Contains ids r.entry.scheduled.id in
    notes.keeps r.entry.scheduled.id (noted off (subst P (ap (λ ids. ids.items) notes.ids) has))

-- a row written, and noted if it was live and isn't any more
pub noted-write : (t at : ℕ) (d v : Row) (ended : Bool) (rows rows' : List Row) (old new : LiveIds) → at < length rows → rows' ≡ set rows at v → v.entry.scheduled.id ≡ (get_or rows at d).entry.scheduled.id
    → ended ≡ (live_at t (get_or rows at d) && not (live_at t v)) → Notes v.entry.scheduled.id ended old new → AllNoted t rows old → AllNoted t rows' new
noted-write t at d v ended rows rows' old new in' is same end notes noted =
    let P : List Row → Type 0 = λ xs. AllNoted t xs new in
    subst P (sym is)
    (set-cases rows at v in' (λ j x. IsRowNoted t new x)
    (λ j e lt ne. noted-keep t (get_or rows j e) v.entry.scheduled.id ended old new notes (noted j e lt))
    (λ off has. split (live_at t (get_or rows at d)) refl off has))
  where
    split : (b : Bool) → live_at t (get_or rows at d) ≡ b → live_at t v ≡ false → Contains new.ids.items v.entry.scheduled.id → IsNoted new v.entry.scheduled.id
    split true on off has = notes.there (end ∙ ap (λ b. b && not (live_at t v)) on ∙ ap not off)
    split false gone off has =
        let Q : List ℕ → Type 0 = λ ids. Contains ids v.entry.scheduled.id in
        let R : ℕ → Type 0 = λ id. Contains old.ids.items id in
        let S : ℕ → Type 0 = λ id. IsNoted old id in
        notes.keeps v.entry.scheduled.id (subst S (sym same) (noted at d in' gone (subst R same (subst Q (ap (λ ids. ids.items) notes.ids) has))))

-- ---- on the way to a later moment

pub noted-start : (t now : ℕ) (rows : List Row) (deadlines : Deadlines) (live : LiveIds) → t ≤ now → Awake t rows deadlines → AllNoted t rows live → NotedOrDue now rows deadlines live
noted-start t now rows deadlines live le awake noted k d lt = elim (live-or-due t now rows deadlines k d le awake lt) [
  | inl same ↦ inl (λ off has. noted k d lt (same ∙ off) has)
  | inr due ↦ inr due
]

pub noted-end : (now : ℕ) (rows : List Row) (deadlines : Deadlines) (live : LiveIds) → NotedOrDue now rows deadlines live → All (λ (x : Reverse (ℕ × ℕ)). now < x.0.0) deadlines → AllNoted now rows live
noted-end now rows deadlines live noted none k d lt = elim (noted k d lt) [
  | inl w ↦ w
  | inr due ↦ absurd (never-due now deadlines k none due)
]

pub noted-step : (now before m k : ℕ) (d : Row) (a ended : Bool) (rows rows' : List Row) (deadlines deadlines' : Deadlines) (old new : LiveIds) → k < length rows → IsPermutation deadlines (record { 0 = (m, k) } ∷ deadlines')
    → ((e : Row) → rows' ≡ set rows k (with_active a (get_or rows k e))) → ended ≡ (live_at before (get_or rows k d) && not (live_at now (get_or rows k d))) → Notes (get_or rows k d).entry.scheduled.id ended old new
    → AllNoted before rows old → NotedOrDue now rows deadlines old → NotedOrDue now rows' deadlines' new
noted-step now before m k d a ended rows rows' deadlines deadlines' old new in' perm is end notes early noted =
    let v : Row = with_active a (get_or rows k d) in
    let P : List Row → Type 0 = λ xs. NotedOrDue now xs deadlines' new in
    subst P (sym (is d))
    (set-cases rows k v in' (λ j x. IsRowNoted now new x ⊎ IsDue now deadlines' j)
    (λ j e lt ne. elim (noted j e lt) [
      | inl w ↦ inl (noted-keep now (get_or rows j e) (get_or rows k d).entry.scheduled.id ended old new notes w)
      | inr due ↦ inr (record {
        moment = due.moment;
        past = due.past;
        there = not-first (record { 0 = (m, k) }) deadlines' (record { 0 = (due.moment, j) }) (λ q. ne (sym (ap (λ (y : Reverse (ℕ × ℕ)). y.0.1) q))) (Contains-permutation _ _ _ perm due.there);
      })
    ])
    (inl (λ off has. split (live_at before (get_or rows k d)) refl off has)))
  where
    split : (b : Bool) → live_at before (get_or rows k d) ≡ b → live_at now (get_or rows k d) ≡ false → Contains new.ids.items (get_or rows k d).entry.scheduled.id → IsNoted new (get_or rows k d).entry.scheduled.id
    split true on off has = notes.there (end ∙ ap (λ b. b && not (live_at now (get_or rows k d))) on ∙ ap not off)
    split false gone off has = noted-keep before (get_or rows k d) (get_or rows k d).entry.scheduled.id ended old new notes (early k d in') gone has

-- a mark changes nothing of it
pub noted-mark : (t k : ℕ) (d : Row) (a ended : Bool) (id : ℕ) (rows rows' : List Row) (old new : LiveIds) → k < length rows → ((e : Row) → rows' ≡ set rows k (with_active a (get_or rows k e))) → Notes id ended old new
    → AllNoted t rows old → AllNoted t rows' new
noted-mark t k d a ended id rows rows' old new in' is notes noted =
    let v : Row = with_active a (get_or rows k d) in
    let P : List Row → Type 0 = λ xs. AllNoted t xs new in
    subst P (sym (is d))
    (set-cases rows k v in' (λ j x. IsRowNoted t new x)
    (λ j e lt ne. noted-keep t (get_or rows j e) id ended old new notes (noted j e lt))
    (noted-keep t (get_or rows k d) id ended old new notes (noted k d in')))

-- ---- between calls

-- one more row, whose id is new
pub noted-add : (t : ℕ) (r : Row) (a : Bool) (rows marked : List Row) (live : LiveIds) → marked ≡ set (rows ++ r ∷ []) (length rows) (with_active a r) → IsFresh r live → AllNoted t rows live → AllNoted t marked live
noted-add t r a rows marked live is fresh noted =
    let P : List Row → Type 0 = λ xs. AllNoted t xs live in
    subst P (sym is)
    (set-cases (rows ++ r ∷ []) (length rows) (with_active a r) (omega (arith, length_push rows r)) (λ j x. IsRowNoted t live x)
    (λ j e lt ne.
    let low : j < length rows = omega (arith, lt, length_push rows r, ne) in
    let Q : Row → Type 0 = λ x. IsRowNoted t live x in
    subst Q (sym (get_or_append_left rows (r ∷ []) e j low)) (noted j e low))
    (λ off has. absurd (fresh has)))

-- where the ids are those of the live rows, none is to be noted
pub live-noted : (first t : ℕ) (rows : List Row) (live : LiveIds) → ((k : ℕ) (d : Row) → k < length rows → (get_or rows k d).entry.scheduled.id ≡ first + k) → live.ids.items ≡ live_ids first t rows → AllNoted t rows live
live-noted first t rows live placed is k d lt off has =
    let P : List ℕ → Type 0 = λ ids. Contains ids (get_or rows k d).entry.scheduled.id in
    let Q : ℕ → Type 0 = λ id. Contains (live_ids first t rows) id in
    absurd (true≢false (sym (live-of first t k rows lt (subst Q (placed k d lt) (subst P is has))) ∙ ap (live_at t) (get_or_default rows k some-row d lt) ∙ off))

-- after a call the ids of rows that aren't live any more are noted
pub ids-noted : (first t now : ℕ) (rows rows' : List Row) (live : LiveIds) → ((k : ℕ) (d : Row) → k < length rows' → (get_or rows' k d).entry.scheduled.id ≡ first + k) → length rows' ≡ length rows → live.ids.items ≡ live_ids first t rows
    → AllNoted now rows' live → AreNoted (is_live_row first rows' now) live
ids-noted first t now rows rows' live placed long is noted id has off =
    let P : List ℕ → Type 0 = λ ids. Contains ids id in
    let h = live-in first t rows id (subst P is has) in
    let k : ℕ = id - first in
    let lt : k < length rows' = omega (arith, h.0, h.1, long) in
    let back : first + k ≡ id = omega (arith, h.0) in
    let id-is : (get_or rows' k some-row).entry.scheduled.id ≡ id = placed k some-row lt ∙ back in
    let Q : ℕ → Type 0 = λ x. Contains live.ids.items x in
    let R : ℕ → Type 0 = λ x. IsNoted live x in
    subst R id-is (noted k some-row lt (sym (live-id first now k rows' lt) ∙ ap (is_live_row first rows' now) back ∙ off) (subst Q (sym id-is) has))
