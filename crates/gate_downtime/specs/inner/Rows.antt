-- For proofs and private functions alone: what a book's rows, counters and deadlines keep.
use Rattle.std.specs.Prelude.{◌≡◌, ℕ, ◌+◌, ◌-◌, ◌<◌, ◌≤◌, ◌^◌, Bool, true, false, not, ◌&&◌, ◌==◌, nat_lt, nat_le, List, map, reverse, length, slice_index_or, Option, Some, None, count_by, All, Contains, ◌⊎◌, if◌then◌else◌}
use Rattle.std.specs.Ordering.{nat_cmp, ordering_then}
use Rattle.std.specs.declared.cmp.Ordering.{Ordering}
use Rattle.std.specs.declared.cmp.Reverse.{Reverse}
use Rattle.std.specs.declared.collections.BinaryHeap.{BinaryHeap}
use Rattle.std.specs.Global.{Global}
use Rattle.std.specs.BinaryHeap.{heap_items, heap_capacity, IsHeap}
use Rattle.gate_model.specs.declared.downtime.Entry.{Entry}
use Rattle.gate_model.specs.Downtime.{begin_in, over_in, is_deleted_in, is_begun_by, begin_by, over_by}
use Rattle.gate_model.specs.declared.object.Kind.TheVariants.{Host}
use Rattle.gate_downtime.specs.declared.row.Row.{Row}

-- the entries of the rows, the newest first
abbrev pub row_entries : List Row → List Entry
row_entries rows = reverse (map (λ (r : Row). r.entry) rows)

-- active at t, by what the row keeps
abbrev pub active_at : ℕ → Row → Bool
active_at t r = (not r.entry.deleted && nat_lt t r.over) && is_begun_by t r.begun

-- the row's mark, changed
abbrev pub with_active : Bool → Row → Row
with_active a r = record { entry = r.entry; begun = r.begun; over = r.over; active = a; settled = r.settled }

-- an active row of this object
abbrev pub here : ℕ → Row → Bool
here p r = (r.entry.scheduled.object.place == p) && r.active

-- each counter is the number of marked rows of its object
abbrev pub Counted : List Row → List ℕ → Type 0
Counted rows depths = (p : ℕ) → p < length depths → slice_index_or depths p 0 ≡ count_by (here p) rows

-- the counters are those of these rows, each row's object has one, and none of them can overflow
pub record CanCount (rows : List Row) (depths : List ℕ) : Type 0 where
  pub counted : Counted rows depths
  pub placed : All (λ (r : Row). r.entry.scheduled.object.place < length depths) rows
  pub few : length rows < 2 ^ 32

-- a row keeps its beginning, its end and its deletion
pub record IsCached (es : List Entry) (r : Row) : Type 0 where
  pub begun_is : r.begun ≡ begin_in es r.entry.scheduled.id
  pub over_is : Some r.over ≡ over_in es r.entry.scheduled.id
  pub deleted_is : r.entry.deleted ≡ is_deleted_in es r.entry.scheduled.id

-- the earliest deadline is the greatest
abbrev pub deadline_cmp : Reverse (ℕ × ℕ) → Reverse (ℕ × ℕ) → Ordering
deadline_cmp x y = ordering_then (nat_cmp y.0.0 x.0.0) (nat_cmp y.0.1 x.0.1)

-- a beginning or an end later than t is among the deadlines
pub record Wakes (t : ℕ) (deadlines : List (Reverse (ℕ × ℕ))) (k : ℕ) (r : Row) : Type 0 where
  pub end : t < r.over → Contains deadlines (record { 0 = (r.over, k) })
  pub beginning : (b : ℕ) → r.begun ≡ Some b → t < b → Contains deadlines (record { 0 = (b, k) })

abbrev pub Deadlines : Type 0
Deadlines = List (Reverse (ℕ × ℕ))

-- rows, counters and deadlines fit one another, whatever the moment
pub record Fits (rows : List Row) (depths : List ℕ) (deadlines : Deadlines) : Type 0 where
  pub order : IsHeap deadline_cmp deadlines
  pub counted : Counted rows depths
  pub placed : All (λ (r : Row). r.entry.scheduled.object.place < length depths) rows
  pub indexed : All (λ (d : Reverse (ℕ × ℕ)). d.0.1 < length rows) deadlines
  pub few : length rows < 2 ^ 32

-- each row's later beginning and end are among the deadlines
abbrev pub Awake : ℕ → List Row → Deadlines → Type 0
Awake t rows deadlines = (k : ℕ) (d : Row) → k < length rows → Wakes t deadlines k (slice_index_or rows k d)

-- the marks are those of the moment
abbrev pub Marked : ℕ → List Row → Type 0
Marked t rows = All (λ (r : Row). r.active ≡ active_at t r) rows

pub record Sound (t : ℕ) (rows : List Row) (depths : List ℕ) (deadlines : Deadlines) : Type 0 where
  pub fits : Fits rows depths deadlines
  pub awake : Awake t rows deadlines
  pub marked : Marked t rows

-- some deadline of the row isn't later than t
pub record IsDue (t : ℕ) (deadlines : Deadlines) (k : ℕ) : Type 0 where
  pub moment : ℕ
  pub past : moment ≤ t
  pub there : Contains deadlines (record { 0 = (moment, k) })

-- the same rows but for their marks
abbrev pub SameButMarks : List Row → List Row → Type 0
SameButMarks xs ys = map (with_active true) ys ≡ map (with_active true) xs

-- on the way to t: a row whose mark isn't yet that of t has a deadline to come
pub record Settling (t : ℕ) (before rows : List Row) (depths : List ℕ) (deadlines : Deadlines) : Type 0 where
  pub fits : Fits rows depths deadlines
  pub awake : Awake t rows deadlines
  pub pending :
      (k : ℕ) (d : Row) → k < length rows
      → ((slice_index_or rows k d).active ≡ active_at t (slice_index_or rows k d)) ⊎ IsDue t deadlines k
  pub same : SameButMarks before rows

-- a row's beginning and end follow from its trigger's
pub record Follows (r : Row) (begun over : Option ℕ) : Type 0 where
  pub begun_is : r.begun ≡ begin_by r.entry begun
  pub over_is : r.over ≡ over_by r.entry r.begun begun over

-- a row's id follows from its index, its trigger is an earlier row, and its beginning and end follow from the trigger's
pub record Local (first : ℕ) (rows : List Row) (k : ℕ) (r : Row) : Type 0 where
  pub id_is : r.entry.scheduled.id ≡ first + k
  pub linked :
      (r.entry.scheduled.plan.trigger ≡ 0)
      ⊎ ((first ≤ r.entry.scheduled.plan.trigger) × (r.entry.scheduled.plan.trigger < first + k))
  pub follows :
      (e : Row)
      → Follows r (slice_index_or rows (r.entry.scheduled.plan.trigger - first) e).begun
      (Some (slice_index_or rows (r.entry.scheduled.plan.trigger - first) e).over)

abbrev pub Consistent : ℕ → List Row → Type 0
Consistent first rows = (k : ℕ) (d : Row) → k < length rows → Local first rows k (slice_index_or rows k d)

abbrev pub is_unsettled : Row → Bool
is_unsettled r = not r.settled

-- the row counts as one, where it isn't settled
abbrev pub unsettled_one : Row → ℕ
unsettled_one r = if is_unsettled r then 1 else 0

-- the row can replace the old one: it is that of the same entry as it was scheduled, with its mark, and begins and ends
-- as before, unless it is settled and the old one isn't
pub record CanReplace (old new : Row) : Type 0 where
  pub scheduled : new.entry.scheduled ≡ old.entry.scheduled
  pub mark : new.active ≡ old.active
  pub settles : old.settled ≡ true → new.settled ≡ true
  pub moments : new.settled ≡ old.settled → (new.begun ≡ old.begun) × (new.over ≡ old.over)

-- sound, but for the mark of the row at k
pub record Nearly (t : ℕ) (rows : List Row) (depths : List ℕ) (deadlines : Deadlines) (k : ℕ) : Type 0 where
  pub fits : Fits rows depths deadlines
  pub awake : Awake t rows deadlines
  pub marked :
      (j : ℕ) (d : Row) → j < length rows → (j ≡ k → ⊥)
      → (slice_index_or rows j d).active ≡ active_at t (slice_index_or rows j d)

-- new deadlines are those of the row at k
pub record Adds (k : ℕ) (old new : Deadlines) : Type 0 where
  pub order : IsHeap deadline_cmp old → IsHeap deadline_cmp new
  pub keeps : (x : Reverse (ℕ × ℕ)) → Contains old x → Contains new x
  pub only :
      (n : ℕ) → k < n → All (λ (d : Reverse (ℕ × ℕ)). d.0.1 < n) old
      → All (λ (d : Reverse (ℕ × ℕ)). d.0.1 < n) new

-- deadlines of the row at k are added, and no room is lost
pub record AddsAt (k : ℕ) (old new : BinaryHeap (Reverse (ℕ × ℕ)) Global) : Type 0 where
  pub items : Adds k (heap_items old) (heap_items new)
  pub capacity : heap_capacity old ≤ heap_capacity new

-- live at t, by what the row keeps
abbrev pub live_at : ℕ → Row → Bool
live_at t r = not r.entry.deleted && nat_lt t r.over

-- a row, where there is none
abbrev pub some-row : Row
some-row =
    record {
      entry = record {
        scheduled = record {
          id = 0;
          object = record { place = 0; kind = Host };
          plan = record {
            starts = record { 0 = 0 };
            ends = record { 0 = 0 };
            fixed = false;
            trigger = 0;
            lasts = 0;
            log_index = 0;
          };
          moment = record { 0 = 0 };
        };
        transition = None;
        deleted = false;
      };
      begun = None;
      over = 0;
      active = false;
      settled = false;
    }

-- the row of this id is there, and live at t
abbrev pub is_live_row : ℕ → List Row → ℕ → ℕ → Bool
is_live_row first rows t x =
    (nat_le first x && nat_lt x (first + length rows)) && live_at t (slice_index_or rows (x - first) some-row)

-- when the row of this id begins, if it is there and does
abbrev pub begin_of_row : ℕ → List Row → ℕ → Option ℕ
begin_of_row first rows x =
    if nat_le first x && nat_lt x (first + length rows)
    then (slice_index_or rows (x - first) some-row).begun
    else None
