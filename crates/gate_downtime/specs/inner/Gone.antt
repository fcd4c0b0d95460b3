-- For proofs and private functions alone: the rows that are live no more, and which of them were returned.
use Rattle.std.specs.Prelude.{◌≡◌, ℕ, ◌+◌, ◌≤◌, ◌<◌, ◌⊎◌, Bool, true, false, not, ◌||◌, List, [], ◌∷◌, ◌++◌, map, length, vec_len, vec_capacity, slice_index_or, slice_set, count_by, All, Contains, if◌then◌else◌}
use Rattle.std.specs.Ordering.{nat_cmp}
use Rattle.std.specs.declared.cmp.Ordering.{Ordering}
use Rattle.std.specs.declared.cmp.Reverse.{Reverse}
use Rattle.std.specs.BinaryHeap.{heap_items, heap_len, heap_capacity, IsHeap}
use Rattle.gate_downtime.specs.declared.row.Row.{Row}
use Rattle.gate_downtime.specs.declared.gone.Mark.{Mark}
use Rattle.gate_downtime.specs.declared.gone.Gone.{Gone}
use Rattle.gate_downtime.specs.inner.Rows.{live_at, Deadlines, IsDue}

-- the least index is the greatest
abbrev pub gone_cmp : Reverse ℕ → Reverse ℕ → Ordering
gone_cmp x y = nat_cmp y.0 x.0

abbrev pub Listed : Type 0
Listed = List (Reverse ℕ)

-- a row that may still be listed
abbrev pub is_free : Mark → Bool
is_free m = not (m.listed || m.returned)

abbrev pub is_returned : Mark → Bool
is_returned m = m.returned

-- the list of indexes and the marks fit one another, and this many rows
pub record IsKept (n : ℕ) (marks : List Mark) (listed : Listed) : Type 0 where
  pub len : length marks ≡ n
  pub order : IsHeap gone_cmp listed
  pub indexed : All (λ (x : Reverse ℕ). x.0 < n) listed
  pub there : (k : ℕ) (m : Mark) → k < n → (slice_index_or marks k m).listed ≡ true → Contains listed (record { 0 = k })

-- the list and the marks fit one another
abbrev pub FitsMarks : Gone → Type 0
FitsMarks gone = IsKept (length gone.marks.items) gone.marks.items (heap_items gone.heap)

-- a row that isn't live, and wasn't returned, is listed
abbrev pub Awaits : ℕ → List Mark → Listed → ℕ → Row → Type 0
Awaits t marks listed k r =
    live_at t r ≡ false → ((m : Mark) → (slice_index_or marks k m).returned ≡ false)
    → Contains listed (record { 0 = k })

pub record AllGone (t : ℕ) (rows : List Row) (gone : Gone) : Type 0 where
  pub kept : IsKept (length rows) gone.marks.items (heap_items gone.heap)
  pub few : heap_len gone.heap + count_by is_free gone.marks.items ≤ length rows
  pub room : length rows ≤ heap_capacity gone.heap
  pub awaits :
      (k : ℕ) (d : Row) → k < length rows
      → Awaits t gone.marks.items (heap_items gone.heap) k (slice_index_or rows k d)

-- on the way to t: a row that isn't listed as it has to be has a deadline to come
pub record GoneOrDue (t : ℕ) (rows : List Row) (deadlines : Deadlines) (gone : Gone) : Type 0 where
  pub kept : IsKept (length rows) gone.marks.items (heap_items gone.heap)
  pub few : heap_len gone.heap + count_by is_free gone.marks.items ≤ length rows
  pub room : length rows ≤ heap_capacity gone.heap
  pub awaits :
      (k : ℕ) (d : Row) → k < length rows
      → Awaits t gone.marks.items (heap_items gone.heap) k (slice_index_or rows k d) ⊎ IsDue t deadlines k

-- the row at this index is listed, if it is to be
pub record Lists (at : ℕ) (live : Bool) (old new : Gone) : Type 0 where
  pub kept : (n : ℕ) → IsKept n old.marks.items (heap_items old.heap) → IsKept n new.marks.items (heap_items new.heap)
  pub few :
      (n : ℕ) → heap_len old.heap + count_by is_free old.marks.items ≤ n
      → heap_len new.heap + count_by is_free new.marks.items ≤ n
  pub keeps :
      (k : ℕ) → Contains (heap_items old.heap) (record { 0 = k })
      → Contains (heap_items new.heap) (record { 0 = k })
  pub same : map is_returned new.marks.items ≡ map is_returned old.marks.items
  pub there :
      live ≡ false → ((m : Mark) → (slice_index_or old.marks.items at m).returned ≡ false)
      → Contains (heap_items new.heap) (record { 0 = at })
  pub capacity : heap_capacity old.heap ≤ heap_capacity new.heap
  pub marks_len : vec_len new.marks ≡ vec_len old.marks
  pub marks_capacity : vec_capacity old.marks ≤ vec_capacity new.marks

-- nothing was returned, and no room lost
pub record SameGone (old new : Gone) : Type 0 where
  pub same : map is_returned new.marks.items ≡ map is_returned old.marks.items
  pub capacity : heap_capacity old.heap ≤ heap_capacity new.heap
  pub marks_len : vec_len new.marks ≡ vec_len old.marks
  pub marks_capacity : vec_capacity old.marks ≤ vec_capacity new.marks

-- one more row, which wasn't returned, and no room lost
pub record MoreGone (old new : Gone) : Type 0 where
  pub more : map is_returned new.marks.items ≡ map is_returned old.marks.items ++ false ∷ []
  pub capacity : heap_capacity old.heap ≤ heap_capacity new.heap
  pub marks_len : vec_len new.marks ≡ vec_len old.marks + 1
  pub marks_capacity : vec_capacity old.marks ≤ vec_capacity new.marks

-- the least listed row was taken off the list
pub record Pops (at : ℕ) (old new : Gone) : Type 0 where
  pub within : at < length old.marks.items
  pub kept : (n : ℕ) → IsKept n old.marks.items (heap_items old.heap) → IsKept n new.marks.items (heap_items new.heap)
  pub few :
      (n : ℕ) → heap_len old.heap + count_by is_free old.marks.items ≤ n
      → heap_len new.heap + count_by is_free new.marks.items ≤ n
  pub least : (k : ℕ) → Contains (heap_items old.heap) (record { 0 = k }) → at ≤ k
  pub keeps :
      (k : ℕ) → (k ≡ at → ⊥) → Contains (heap_items old.heap) (record { 0 = k })
      → Contains (heap_items new.heap) (record { 0 = k })

-- the row at this index was returned
pub record Returns (at : ℕ) (old new : Gone) : Type 0 where
  pub marks :
      (m : Mark)
      → new.marks.items
      ≡ slice_set old.marks.items at
      (record { listed = (slice_index_or old.marks.items at m).listed; returned = true })
  pub heap : new.heap ≡ old.heap
  pub marks_len : vec_len new.marks ≡ vec_len old.marks
  pub marks_capacity : vec_capacity new.marks ≡ vec_capacity old.marks

-- each of the first n rows is live or was returned
abbrev pub AllPassed : ℕ → List Row → Gone → ℕ → Type 0
AllPassed now rows gone n =
    (k : ℕ) (d : Row) (m : Mark) → k < n
    → (live_at now (slice_index_or rows k d) || (slice_index_or gone.marks.items k m).returned) ≡ true

-- the least row that isn't live and wasn't returned is returned
pub record TakesGone (now : ℕ) (rows : List Row) (at : ℕ) (old new : Gone) : Type 0 where
  pub within : at < length rows
  pub dead : (d : Row) → live_at now (slice_index_or rows at d) ≡ false
  pub fresh : (m : Mark) → (slice_index_or old.marks.items at m).returned ≡ false
  pub before : AllPassed now rows old at
  pub flags : map is_returned new.marks.items ≡ slice_set (map is_returned old.marks.items) at true
  pub marks_len : vec_len new.marks ≡ vec_len old.marks
  pub marks_capacity : vec_capacity old.marks ≤ vec_capacity new.marks
  pub capacity : heap_capacity old.heap ≤ heap_capacity new.heap

-- the ids of the rows with the flag, ascending
abbrev pub returned_ids : ℕ → List Bool → List ℕ
returned_ids id [] = []
returned_ids id (flag ∷ flags) = if flag then id ∷ returned_ids (id + 1) flags else returned_ids (id + 1) flags
