-- For proofs and private functions alone: how many items a list of the code has, and how many it has room for.
use Rattle.std.specs.Prelude.{◌≡◌, ◌+◌, ◌<◌, ◌≤◌, vec_len, vec_capacity}
use Rattle.std.specs.Global.{Vec, Global}
use Rattle.std.specs.declared.collections.BinaryHeap.{BinaryHeap}
use Rattle.std.specs.BinaryHeap.{heap_items, heap_len, heap_capacity}

-- there is room for one more item
abbrev pub HasSpace : {A : Type 0} → Vec A → Type 0
HasSpace items = vec_len items < vec_capacity items

-- one more item, and no room lost
pub record OneMore {A : Type 0} (old new : Vec A) : Type 0 where
  pub len : vec_len new ≡ vec_len old + 1
  pub capacity : vec_capacity old ≤ vec_capacity new

-- as many items, and room for as many
pub record SameSize {A : Type 0} (old new : Vec A) : Type 0 where
  pub len : vec_len new ≡ vec_len old
  pub capacity : vec_capacity new ≡ vec_capacity old

-- no more items, and room for as many
pub record NoLonger {A : Type 0} (old new : Vec A) : Type 0 where
  pub len : vec_len new ≤ vec_len old
  pub capacity : vec_capacity new ≡ vec_capacity old

-- the same items, and room for as many or more
pub record KeepsItems {A : Type 0} (old new : Vec A) : Type 0 where
  pub items : new.items ≡ old.items
  pub len : vec_len new ≡ vec_len old
  pub capacity : vec_capacity old ≤ vec_capacity new

-- the same items of a heap, and room for as many or more
pub record KeepsHeapItems {A : Type 0} (old new : BinaryHeap A Global) : Type 0 where
  pub items : heap_items new ≡ heap_items old
  pub len : heap_len new ≡ heap_len old
  pub capacity : heap_capacity old ≤ heap_capacity new
