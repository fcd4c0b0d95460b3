-- For proofs and private functions alone: the ids of the live rows, and those that a call is still to remove.
use Rattle.std.specs.Prelude.{◌≡◌, ℕ, ◌+◌, ◌-◌, ◌<◌, ◌≤◌, ◌⊎◌, Bool, true, false, List, [], ◌∷◌, map, filter, length, slice_index_or, Option, All, Contains}
use Rattle.gate_model.specs.Search.{index_by}
use Rattle.gate_model.specs.declared.downtime.Scheduled.{Scheduled}
use Rattle.gate_downtime.specs.declared.row.Row.{Row}
use Rattle.gate_downtime.specs.declared.live.LiveIds.{LiveIds}
use Rattle.gate_downtime.specs.inner.Rows.{live_at, some-row, Deadlines, IsDue}
use Rattle.gate_downtime.specs.inner.Gone.{returned_ids}

-- the ids ascend from this one on
abbrev pub AreFrom : ℕ → List ℕ → Type 0
AreFrom low [] = Unit {0}
AreFrom low (id ∷ ids) = (low ≤ id) × AreFrom (id + 1) ids

-- the ids ascend
abbrev pub AreAscending : List ℕ → Type 0
AreAscending ids = AreFrom 0 ids

-- the index of this id
abbrev pub index_among : ℕ → List ℕ → Option ℕ
index_among id ids = index_by (λ (other : ℕ). other) id ids

-- the ids of the rows that are live at t, ascending
abbrev pub live_ids : ℕ → ℕ → List Row → List ℕ
live_ids first t rows = returned_ids first (map (live_at t) rows)

-- what was scheduled as the entry of this id
abbrev pub scheduled_at : ℕ → List Row → ℕ → Scheduled
scheduled_at first rows id = (slice_index_or rows (id - first) some-row).entry.scheduled

-- the ids are those of rows
abbrev pub AreInside : ℕ → List Row → List ℕ → Type 0
AreInside first rows ids = All (λ (id : ℕ). (first ≤ id) × (id < first + length rows)) ids

-- the call is known to have ended this row, or to have ended many
abbrev pub IsNoted : LiveIds → ℕ → Type 0
IsNoted live id = (live.many ≡ true) ⊎ Contains live.ended.items id

-- the row is noted, where it has ended
pub record Notes (id : ℕ) (ended : Bool) (old new : LiveIds) : Type 0 where
  pub ids : new.ids ≡ old.ids
  pub keeps : (other : ℕ) → IsNoted old other → IsNoted new other
  pub there : ended ≡ true → IsNoted new id

-- a row that isn't live at t, and whose id is among the ids, is noted
abbrev pub IsRowNoted : ℕ → LiveIds → Row → Type 0
IsRowNoted t live r =
    live_at t r ≡ false → Contains live.ids.items r.entry.scheduled.id → IsNoted live r.entry.scheduled.id

abbrev pub AllNoted : ℕ → List Row → LiveIds → Type 0
AllNoted t rows live = (k : ℕ) (d : Row) → k < length rows → IsRowNoted t live (slice_index_or rows k d)

-- on the way to t: a row that isn't yet noted has a deadline to come
abbrev pub NotedOrDue : ℕ → List Row → Deadlines → LiveIds → Type 0
NotedOrDue t rows deadlines live =
    (k : ℕ) (d : Row) → k < length rows → IsRowNoted t live (slice_index_or rows k d) ⊎ IsDue t deadlines k

-- the ids for which this isn't true are noted
abbrev pub AreNoted : (ℕ → Bool) → LiveIds → Type 0
AreNoted is_live live = (id : ℕ) → Contains live.ids.items id → is_live id ≡ false → IsNoted live id

-- nothing is noted
pub record IsIdle (live : LiveIds) : Type 0 where
  pub none : live.ended.items ≡ []
  pub few : live.many ≡ false

-- the ids of live rows are left alone, and nothing is noted
pub record DropsEnded (is_live : ℕ → Bool) (old new : LiveIds) : Type 0 where
  pub ids : new.ids.items ≡ filter is_live old.ids.items
  pub room : old.ids.room ≤ new.ids.room
  pub idle : IsIdle new

-- the id of the row isn't among the ids
abbrev pub IsFresh : Row → LiveIds → Type 0
IsFresh r live = Contains live.ids.items r.entry.scheduled.id → ⊥
