-- For proofs and private functions alone: rows that wait no more leave the list of their object.
use Rattle.std.specs.Prelude.{◌≡◌, ℕ, ◌<◌, List, length, slice_index_or, slice_set, Option, Some, None}
use Rattle.gate_downtime.specs.declared.links.Link.{Link}

-- the link with another next waiting row
abbrev pub with_waiting : Option ℕ → Link → Link
with_waiting next l = record { child = l.child; sibling = l.sibling; waiting = next }

-- the last row that was kept is there, if there is one
abbrev pub IsLastWithin : Option ℕ → List Link → Type 0
IsLastWithin None links = Unit {0}
IsLastWithin (Some at) links = at < length links

-- the row after the last one that was kept is this one, or the list of the object at this place begins with it
abbrev pub SetsNext : Option ℕ → Option ℕ → ℕ → List Link → List (Option ℕ) → List Link → List (Option ℕ) → Type 0
SetsNext None next place links heads links' heads' = (links' ≡ links) × (heads' ≡ slice_set heads place next)
SetsNext (Some at) next place links heads links' heads' =
    ((l : Link) → links' ≡ slice_set links at (with_waiting next (slice_index_or links at l)))
    × (heads' ≡ heads)

-- the cursor is after the last row that was kept, or at the first of the list
abbrev pub IsAfter : List Link → List (Option ℕ) → ℕ → Option ℕ → Option ℕ → Type 0
IsAfter links heads place None cursor = cursor ≡ slice_index_or heads place None
IsAfter links heads place (Some at) cursor = (l : Link) → cursor ≡ (slice_index_or links at l).waiting

-- the same children and siblings
pub record SameKin (links links' : List Link) : Type 0 where
  pub len : length links' ≡ length links
  pub child : (k : ℕ) (l : Link) → (slice_index_or links' k l).child ≡ (slice_index_or links k l).child
  pub sibling : (k : ℕ) (l : Link) → (slice_index_or links' k l).sibling ≡ (slice_index_or links k l).sibling
