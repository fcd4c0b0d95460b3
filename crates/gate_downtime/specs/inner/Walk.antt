-- For proofs and private functions alone: the walk over the rows of an object that wait for a transition.
use Rattle.std.specs.Prelude.{◌≡◌, ℕ, ◌+◌, ◌<◌, ◌≤◌, Bool, false, not, ◌&&◌, nat_lt, is_none, List, length, map, slice_index_or, Option, Some, None}
use Rattle.gate_model.specs.declared.record.Moment.{Moment}
use Rattle.gate_model.specs.declared.downtime.Entry.{Entry}
use Rattle.gate_downtime.specs.Book.{after_transition}
use Rattle.gate_downtime.specs.declared.row.Row.{Row}
use Rattle.gate_downtime.specs.declared.links.Link.{Link}

-- an untriggered flexible entry of this object
pub record IsFlex (p : ℕ) (e : Entry) : Type 0 where
  pub free : e.scheduled.plan.trigger ≡ 0
  pub flexible : e.scheduled.plan.fixed ≡ false
  pub here : e.scheduled.object.place ≡ p

-- a transition of the object at t, or later, may begin it
pub record Waits (t p : ℕ) (e : Entry) : Type 0 where
  pub flex : IsFlex p e
  pub unturned : e.transition ≡ None
  pub kept : e.deleted ≡ false
  pub open' : t < e.scheduled.plan.ends.0

-- no transition has begun the entry, it isn't deleted, and t is before the end of its window
abbrev pub may_begin : ℕ → Entry → Bool
may_begin t e = is_none e.transition && not e.deleted && nat_lt t e.scheduled.plan.ends.0

-- an untriggered flexible row of the object, and none between it and n waits
abbrev pub NewestFlex : ℕ → List Row → ℕ → ℕ → Option ℕ → Type 0
NewestFlex t rows p n None = (j : ℕ) (d : Row) → j < n → Waits t p (slice_index_or rows j d).entry → ⊥
NewestFlex t rows p n (Some f) =
    (f < n) × ((d : Row) → IsFlex p (slice_index_or rows f d).entry)
    × ((j : ℕ) (d : Row) → f < j → j < n → Waits t p (slice_index_or rows j d).entry → ⊥)

-- the list of an object's untriggered flexible rows, the newest first, with all that wait
pub record FlexLinked (t : ℕ) (rows : List Row) (links : List Link) (p : ℕ) (head : Option ℕ) : Type 0 where
  pub head_is : NewestFlex t rows p (length rows) head
  pub next_is :
      (k : ℕ) (l : Link) (d : Row) → k < length rows → IsFlex p (slice_index_or rows k d).entry
      → NewestFlex t rows p k (slice_index_or links k l).waiting

-- each object has its list
abbrev pub AllFlexLinked : ℕ → List Row → List Link → List (Option ℕ) → Type 0
AllFlexLinked t rows links heads = (p : ℕ) → p < length heads → FlexLinked t rows links p (slice_index_or heads p None)

-- the row is still to be met
abbrev pub Ahead : Option ℕ → ℕ → Type 0
Ahead None j = ⊥
Ahead (Some c) j = j ≤ c

abbrev pub cursor_size : Option ℕ → ℕ
cursor_size None = 0
cursor_size (Some c) = c + 1

abbrev pub entry_list : List Row → List Entry
entry_list rows = map (λ (r : Row). r.entry) rows

abbrev pub IsCursor : List Row → ℕ → Option ℕ → Type 0
IsCursor rows p None = Unit {0}
IsCursor rows p (Some c) = (c < length rows) × ((d : Row) → IsFlex p (slice_index_or rows c d).entry)

pub record Walked (m : Moment) (p : ℕ) (before rows : List Row) (cursor : Option ℕ) : Type 0 where
  pub len : length rows ≡ length before
  pub cursor_in : IsCursor before p cursor
  pub ahead :
      (j : ℕ) (d : Row) → j < length before → Ahead cursor j
      → (slice_index_or rows j d).entry ≡ (slice_index_or before j d).entry
  pub done :
      (j : ℕ) (d : Row) → j < length before → (Ahead cursor j → ⊥)
      → (slice_index_or rows j d).entry ≡ after_transition m p (slice_index_or before j d).entry
