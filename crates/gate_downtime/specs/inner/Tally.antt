-- For proofs and private functions alone: the counters and the deadlines beside the rows, as a structure of the code.
use Rattle.std.specs.Prelude.{◌≡◌, ℕ, ◌+◌, ◌*◌, ◌≤◌, List, count_by, vec_len, vec_capacity}
use Rattle.std.specs.Global.{Vec}
use Rattle.std.specs.BinaryHeap.{heap_items, heap_len, heap_capacity}
use Rattle.gate_downtime.specs.declared.row.Row.{Row}
use Rattle.gate_downtime.specs.declared.tally.Tally.{Tally}
use Rattle.gate_downtime.specs.inner.Rows.{Sound, is_unsettled}
use Rattle.gate_downtime.specs.inner.Gone.{AllGone, SameGone}
use Rattle.gate_downtime.specs.inner.Live.{AllNoted}
use Rattle.gate_downtime.specs.inner.Sizes.{KeepsItems, KeepsHeapItems}

-- counters, deadlines, marks and the lists of what is live and what no more are those of this moment
pub record IsSound (now : ℕ) (rows : List Row) (tally : Tally) : Type 0 where
  pub sound : Sound now rows tally.depths.items (heap_items tally.deadlines)
  pub gone : AllGone now rows tally.gone
  pub noted : AllNoted now rows tally.live

-- there is room for this many deadlines more
abbrev pub HasRoom : ℕ → Tally → Type 0
HasRoom more tally = heap_len tally.deadlines + more ≤ heap_capacity tally.deadlines

-- no row is added or removed, no row is returned, and the ids stay as they are; memory that was taken is kept
pub record KeepsSize (rows rows' : Vec Row) (tally tally' : Tally) : Type 0 where
  pub objects : vec_len tally'.depths ≡ vec_len tally.depths
  pub gone_same : SameGone tally.gone tally'.gone
  pub ids_same : tally'.live.ids ≡ tally.live.ids
  pub len : vec_len rows' ≡ vec_len rows
  pub capacity : vec_capacity rows' ≡ vec_capacity rows

-- at most this many deadlines are added, and no memory is lost
pub record AddsAtMost (more : ℕ) (tally tally' : Tally) : Type 0 where
  pub len : heap_len tally'.deadlines ≤ heap_len tally.deadlines + more
  pub capacity : heap_capacity tally.deadlines ≤ heap_capacity tally'.deadlines

-- at most two deadlines are added for each row that is settled, and no memory is lost
pub record AddsForSettled (rows rows' : List Row) (tally tally' : Tally) : Type 0 where
  pub left :
      heap_len tally'.deadlines + 2 * count_by is_unsettled rows'
      ≤ heap_len tally.deadlines + 2 * count_by is_unsettled rows
  pub capacity : heap_capacity tally.deadlines ≤ heap_capacity tally'.deadlines

-- the same tally, and no memory is lost
pub record KeepsTally (old new : Tally) : Type 0 where
  pub depths : new.depths ≡ old.depths
  pub deadlines : KeepsHeapItems old.deadlines new.deadlines
  pub marks : KeepsItems old.gone.marks new.gone.marks
  pub heap : KeepsHeapItems old.gone.heap new.gone.heap
  pub ids : new.live.ids.items ≡ old.live.ids.items
  pub ids_room : old.live.ids.room ≤ new.live.ids.room
  pub ended : new.live.ended ≡ old.live.ended
  pub many : new.live.many ≡ old.live.many

-- there is room for what this many more rows need, beside this many
pub record HasRowRoom (rows more : ℕ) (tally : Tally) : Type 0 where
  pub deadlines : heap_len tally.deadlines + (2 * rows + 4 * more) ≤ heap_capacity tally.deadlines
  pub marks : vec_len tally.gone.marks + more ≤ vec_capacity tally.gone.marks
  pub heap : rows + more ≤ heap_capacity tally.gone.heap
  pub ids : more ≤ tally.live.ids.room
