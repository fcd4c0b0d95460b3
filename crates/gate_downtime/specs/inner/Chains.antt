-- For proofs and private functions alone: a walk along the chains of triggers, which begins or deletes rows.
use Rattle.std.specs.Prelude.{◌≡◌, ℕ, ◌+◌, ◌*◌, ◌<◌, ◌≤◌, Bool, true, false, List, [], length, slice_index_or, count_by, vec_len, vec_capacity, All}
use Rattle.gate_downtime.specs.declared.row.Row.{Row}
use Rattle.gate_downtime.specs.declared.links.Link.{Link}
use Rattle.gate_downtime.specs.declared.chains.Chains.{Chains}
use Rattle.gate_downtime.specs.declared.chains.Change.{Change}
use Rattle.gate_downtime.specs.declared.chains.Change.TheVariants.{Begin, Delete}
use Rattle.gate_downtime.specs.inner.Rows.{is_unsettled, row_entries, live_at, with_active}
use Rattle.gate_downtime.specs.inner.Tally.{IsSound, HasRoom, KeepsSize, AddsForSettled, KeepsTally, HasRowRoom}
use Rattle.gate_downtime.specs.inner.Sizes.{KeepsItems}
use Rattle.gate_downtime.specs.inner.Links.{trig, Linked, PlacedAt, FollowsAt, Spreading, load}
use Rattle.gate_downtime.specs.inner.Cancel.{deleted_row, is_kept, Deletes}

-- what is kept beside the rows is that of their moment, and there is room for the deadlines of those that can begin
pub record IsCurrent (chains : Chains) : Type 0 where
  pub sound : IsSound chains.moment.0 chains.rows.items chains.tally
  pub room : HasRoom (2 * count_by is_unsettled chains.rows.items) chains.tally

-- no row is pending, each follows from its trigger's, and there is room for all of them to be pending
pub record IsReady (chains : Chains) : Type 0 where
  pub current : IsCurrent chains
  pub spreading : Spreading chains.first chains.rows.items chains.links.items []
  pub idle : chains.pending.items ≡ []
  pub room : vec_len chains.rows ≤ vec_capacity chains.pending

-- what a step of a walk keeps, and the memory that it leaves
pub record Keeps (old new : Chains) : Type 0 where
  pub links : new.links ≡ old.links
  pub moment : new.moment ≡ old.moment
  pub first : new.first ≡ old.first
  pub size : KeepsSize old.rows new.rows old.tally new.tally
  pub deadlines : AddsForSettled old.rows.items new.rows.items old.tally new.tally
  pub pending : vec_capacity old.pending ≤ vec_capacity new.pending

-- the trigger of the row is one of the rows
abbrev pub IsTriggered : ℕ → List Row → Row → Type 0
IsTriggered first rows r = (first ≤ trig r) × (trig r < first + length rows)

-- a walk at this moment passes the row by
abbrev pub IsPassed : Change → ℕ → Row → Type 0
IsPassed Begin now r = r.settled ≡ true
IsPassed Delete now r = live_at now r ≡ false

-- the row that wasn't settled follows from its trigger's
pub record IsBegun (first : ℕ) (rows : List Row) (old new : Row) : Type 0 where
  pub before : old.settled ≡ false
  pub entry : new.entry ≡ old.entry
  pub mark : new.active ≡ old.active
  pub settled : new.settled ≡ true
  pub follows : FollowsAt first rows new

-- the row that was live is deleted
pub record IsDeleted (now : ℕ) (old new : Row) : Type 0 where
  pub before : live_at now old ≡ true
  pub is : new ≡ with_active old.active (deleted_row old)

-- what a walk makes of the row
abbrev pub IsChanged : Change → Chains → Row → Row → Type 0
IsChanged Begin chains old new = IsBegun chains.first chains.rows.items old new
IsChanged Delete chains old new = IsDeleted chains.moment.0 old new

-- a walk can still change the row
abbrev pub is_open : Change → Row → Bool
is_open Begin r = is_unsettled r
is_open Delete r = is_kept r

-- a row with a trigger
pub record IsChild (rows : List Row) (c : ℕ) : Type 0 where
  pub within : c < length rows
  pub triggered : (d : Row) → trig (slice_index_or rows c d) ≡ 0 → ⊥

-- the pending rows have triggers, and so have those that follow them in the lists
pub record IsStack (first : ℕ) (rows : List Row) (links : List Link) (pending : List ℕ) : Type 0 where
  pub from : 0 < first
  pub placed : (k : ℕ) (d : Row) → k < length rows → PlacedAt first k (slice_index_or rows k d)
  pub linked : Linked first rows links
  pub ready : All (IsChild rows) pending

-- on a walk with these rows pending
pub record IsWalking (change : Change) (chains : Chains) (pending : List ℕ) : Type 0 where
  pub current : IsCurrent chains
  pub stack : IsStack chains.first chains.rows.items chains.links.items pending
  pub room : length pending + count_by (is_open change) chains.rows.items ≤ vec_capacity chains.pending

-- what a walk has done between two lists of pending rows: the entries are as before, or it is on the way of the same
-- deletion
pub record Walks (change : Change) (old : Chains) (before : List ℕ) (new : Chains) (after : List ℕ) : Type 0 where
  pub entries : change ≡ Begin → row_entries new.rows.items ≡ row_entries old.rows.items
  pub begins :
      change ≡ Begin → Spreading old.first old.rows.items old.links.items before
      → Spreading new.first new.rows.items new.links.items after
  pub deletes :
      change ≡ Delete → (rows : List Row) (id : ℕ)
      → Deletes old.first old.moment.0 id rows old.rows.items old.links.items before
      → Deletes new.first new.moment.0 id rows new.rows.items new.links.items after

-- how much of a walk is left: each step makes it less
abbrev pub left_of : Change → Chains → List ℕ → ℕ
left_of change chains pending =
    count_by (is_open change) chains.rows.items * (length chains.rows.items + 1) + load pending

-- the same rows and all beside them, and no memory is lost
pub record KeepsRows (old new : Chains) : Type 0 where
  pub rows : KeepsItems old.rows new.rows
  pub links : KeepsItems old.links new.links
  pub tally : KeepsTally old.tally new.tally
  pub pending : KeepsItems old.pending new.pending
  pub moment : new.moment ≡ old.moment
  pub first : new.first ≡ old.first

-- there is room for this many more rows, and for what they need
pub record HasChainRoom (more : ℕ) (chains : Chains) : Type 0 where
  pub rows : vec_len chains.rows + more ≤ vec_capacity chains.rows
  pub links : vec_len chains.links + more ≤ vec_capacity chains.links
  pub tally : HasRowRoom (vec_len chains.rows) more chains.tally
  pub pending : vec_len chains.rows + more ≤ vec_capacity chains.pending
