-- For proofs and private functions alone: lists of the rows that a row triggers, and the spreading of a beginning
-- along them.
use Rattle.std.specs.Prelude.{◌≡◌, ℕ, ◌+◌, ◌-◌, ◌<◌, ◌≤◌, ◌⊎◌, Bool, true, false, List, [], ◌∷◌, ◌++◌, length, slice_index_or, slice_set, Option, Some, None, All, Contains}
use Rattle.std.specs.List.{sum_by}
use Rattle.gate_model.specs.declared.record.Moment.{Moment}
use Rattle.gate_model.specs.declared.downtime.Entry.{Entry}
use Rattle.gate_downtime.specs.declared.row.Row.{Row}
use Rattle.gate_downtime.specs.declared.links.Link.{Link}
use Rattle.gate_downtime.specs.inner.Rows.{Follows}

abbrev pub trig : Row → ℕ
trig r = r.entry.scheduled.plan.trigger

-- the newest row before n that x triggers, or that there is none
abbrev pub Newest : List Row → ℕ → ℕ → Option ℕ → Type 0
Newest rows x n None = (j : ℕ) (d : Row) → j < n → trig (slice_index_or rows j d) ≡ x → ⊥
Newest rows x n (Some f) =
    (f < n) × ((d : Row) → trig (slice_index_or rows f d) ≡ x)
    × ((j : ℕ) (d : Row) → f < j → j < n → trig (slice_index_or rows j d) ≡ x → ⊥)

-- each row's newest child, and the next older child of the same trigger
pub record Linked (first : ℕ) (rows : List Row) (links : List Link) : Type 0 where
  pub len : length links ≡ length rows
  pub child :
      (k : ℕ) (l : Link) → k < length rows
      → Newest rows (first + k) (length rows) (slice_index_or links k l).child
  pub sibling :
      (k : ℕ) (l : Link) (d : Row) → k < length rows → (trig (slice_index_or rows k d) ≡ 0 → ⊥)
      → Newest rows (trig (slice_index_or rows k d)) k (slice_index_or links k l).sibling

-- a row's id follows from its index, and its trigger is an earlier row
pub record PlacedAt (first : ℕ) (k : ℕ) (r : Row) : Type 0 where
  pub id_is : r.entry.scheduled.id ≡ first + k
  pub linked : (trig r ≡ 0) ⊎ ((first ≤ trig r) × (trig r < first + k))

abbrev pub FollowsAt : ℕ → List Row → Row → Type 0
FollowsAt first rows r =
    (e : Row)
    → Follows r (slice_index_or rows (trig r - first) e).begun
    (Some (slice_index_or rows (trig r - first) e).over)

-- the row is to come: it, or a newer child of its trigger, is pending
pub record Covered (rows : List Row) (pending : List ℕ) (j : ℕ) : Type 0 where
  pub by : ℕ
  pub among : Contains pending by
  pub upto : j ≤ by
  pub same : (d e : Row) → trig (slice_index_or rows j d) ≡ trig (slice_index_or rows by e)

-- a pending row has a trigger, which is settled
pub record IsPending (first : ℕ) (rows : List Row) (c : ℕ) : Type 0 where
  pub within : c < length rows
  pub triggered : (d : Row) → trig (slice_index_or rows c d) ≡ 0 → ⊥
  pub settled : (d e : Row) → (slice_index_or rows (trig (slice_index_or rows c d) - first) e).settled ≡ true

-- an untriggered flexible row that hasn't begun isn't settled
abbrev pub IsRoot : Row → Type 0
IsRoot r = trig r ≡ 0 → r.entry.scheduled.plan.fixed ≡ false → r.entry.transition ≡ None → r.settled ≡ false

pub record Spreading (first : ℕ) (rows : List Row) (links : List Link) (pending : List ℕ) : Type 0 where
  pub from : 0 < first
  pub placed : (k : ℕ) (d : Row) → k < length rows → PlacedAt first k (slice_index_or rows k d)
  pub linked : Linked first rows links
  pub chain :
      (j : ℕ) (d e : Row) → j < length rows → (slice_index_or rows j d).settled ≡ true
      → (trig (slice_index_or rows j d) ≡ 0 → ⊥)
      → (slice_index_or rows (trig (slice_index_or rows j d) - first) e).settled ≡ true
  pub roots : (j : ℕ) (d : Row) → j < length rows → IsRoot (slice_index_or rows j d)
  pub follows :
      (j : ℕ) (d : Row) → j < length rows
      → FollowsAt first rows (slice_index_or rows j d)
      ⊎ (((slice_index_or rows j d).settled ≡ false) × Covered rows pending j)
  pub ready : All (IsPending first rows) pending

-- the row at k takes what follows from its trigger
pub record Refreshes (first : ℕ) (old new : List Row) (k : ℕ) : Type 0 where
  pub row : Row
  pub is : new ≡ slice_set old k row
  pub entry : (d : Row) → row.entry ≡ (slice_index_or old k d).entry
  pub settled : row.settled ≡ true
  pub follows : FollowsAt first old row

-- the measure of the rows that are pending
abbrev pub load : List ℕ → ℕ
load pending = sum_by (λ c. c + 1) pending

-- an untriggered flexible row that hasn't begun
pub record IsWaiting (r : Row) : Type 0 where
  pub free : trig r ≡ 0
  pub flexible : r.entry.scheduled.plan.fixed ≡ false
  pub unturned : r.entry.transition ≡ None

abbrev pub turned_at : Moment → Entry → Entry
turned_at m e = record { scheduled = e.scheduled; transition = Some m; deleted = e.deleted }

-- the link with another newest child
abbrev pub with_child : ℕ → Link → Link
with_child n l = record { child = Some n; sibling = l.sibling; waiting = l.waiting }

-- the link of a new row in no list
abbrev pub lone_link : Link
lone_link = record { child = None; sibling = None; waiting = None }

-- the link of a new row whose trigger had this newest child
abbrev pub child_link : Option ℕ → Link
child_link child = record { child = None; sibling = child; waiting = None }

-- the link of a new row whose object had this newest waiting row
abbrev pub waiting_link : Option ℕ → Link
waiting_link head = record { child = None; sibling = None; waiting = head }

-- the links after a new row that follows the trigger at this index
abbrev pub triggered_links : List Link → ℕ → Link → List Link
triggered_links links at l = slice_set links at (with_child (length links) l) ++ child_link l.child ∷ []

-- the links and the heads of the lists after a new row: one with a trigger, one that waits, or one in no list
abbrev pub IsLinkedMore : List Link → List (Option ℕ) → Option ℕ → Bool → ℕ → List Link → List (Option ℕ) → Type 0
IsLinkedMore links heads (Some at) fixed place links' heads' =
    ((d : Link) → links' ≡ triggered_links links at (slice_index_or links at d)) × (heads' ≡ heads)
IsLinkedMore links heads None true place links' heads' = (links' ≡ links ++ lone_link ∷ []) × (heads' ≡ heads)
IsLinkedMore links heads None false place links' heads' =
    (links' ≡ links ++ waiting_link (slice_index_or heads place None) ∷ [])
    × (heads' ≡ slice_set heads place (Some (length links)))
