-- For proofs and private functions alone: a deletion spreads along the lists of children.
use Rattle.std.specs.Prelude.{◌≡◌, ℕ, ◌+◌, ◌-◌, ◌<◌, ◌⊎◌, Bool, true, false, not, ◌&&◌, ◌||◌, ◌==◌, List, length, slice_index_or, All}
use Rattle.gate_model.specs.Downtime.{is_live_in}
use Rattle.gate_downtime.specs.declared.row.Row.{Row}
use Rattle.gate_downtime.specs.declared.links.Link.{Link}
use Rattle.gate_downtime.specs.inner.Rows.{row_entries, Consistent}
use Rattle.gate_downtime.specs.inner.Links.{trig, Linked, PlacedAt, Covered}

-- row k is hit where it is live and is x, or its trigger is hit
abbrev pub HitIs : (first : ℕ) (live : ℕ → Bool) (x : ℕ) (rows : List Row) (hit : ℕ → Bool) → ℕ → Row → Type 0
HitIs first live x rows hit k r =
    hit k ≡ (live (first + k) && (((first + k) == x) || (not (trig r == 0) && hit (trig r - first))))

abbrev pub hit_at : List Bool → ℕ → Bool
hit_at hit k = slice_index_or hit k false

-- a pending row has a trigger, which is hit
pub record IsNext (first : ℕ) (rows : List Row) (hit : List Bool) (c : ℕ) : Type 0 where
  pub within : c < length rows
  pub triggered : (d : Row) → trig (slice_index_or rows c d) ≡ 0 → ⊥
  pub hit_is : (d : Row) → hit_at hit (trig (slice_index_or rows c d) - first) ≡ true

-- on the way of a deletion, over the rows as they were: each row is as it has to be, or is to come
pub record Deleting
    (first : ℕ) (live : ℕ → Bool) (x : ℕ) (rows : List Row) (links : List Link) (hit : List Bool)
    (pending : List ℕ) : Type 0 where
  pub from : 0 < first
  pub len : length hit ≡ length rows
  pub placed : (k : ℕ) (d : Row) → k < length rows → PlacedAt first k (slice_index_or rows k d)
  pub linked : Linked first rows links
  pub sure : (j : ℕ) → hit_at hit j ≡ true → live (first + j) ≡ true
  pub hits :
      (j : ℕ) (d : Row) → j < length rows
      → HitIs first live x rows (hit_at hit) j (slice_index_or rows j d) ⊎ Covered rows pending j
  pub ready : All (IsNext first rows hit) pending

-- the row is as before, but deleted where it was hit, and its mark
pub record IsStruck (old : Row) (hit : Bool) (new : Row) : Type 0 where
  pub entry :
      new.entry
      ≡ record {
        scheduled = old.entry.scheduled;
        transition = old.entry.transition;
        deleted = old.entry.deleted || hit;
      }
  pub begun : new.begun ≡ old.begun
  pub over : new.over ≡ old.over
  pub settled : new.settled ≡ old.settled

pub record Struck (before rows : List Row) (hit : List Bool) : Type 0 where
  pub len : length rows ≡ length before
  pub each :
      (j : ℕ) (d : Row) → j < length before
      → IsStruck (slice_index_or before j d) (hit_at hit j) (slice_index_or rows j d)

-- on the way of a deletion of the entry x, at this moment
pub record Deletes (first now x : ℕ) (before rows : List Row) (links : List Link) (pending : List ℕ) : Type 0 where
  pub hit : List Bool
  pub consistent : Consistent first before
  pub struck : Struck before rows hit
  pub deleting : Deleting first (is_live_in (row_entries before) now) x before links hit pending

-- the row, deleted and not counted
abbrev pub deleted_row : Row → Row
deleted_row r =
    record {
      entry = record { scheduled = r.entry.scheduled; transition = r.entry.transition; deleted = true };
      begun = r.begun;
      over = r.over;
      active = false;
      settled = r.settled;
    }

abbrev pub is_kept : Row → Bool
is_kept r = not r.entry.deleted

-- some of the rows were hit by a deletion
pub record HasStruck (before rows : List Row) : Type 0 where
  pub hit : List Bool
  pub struck : Struck before rows hit
