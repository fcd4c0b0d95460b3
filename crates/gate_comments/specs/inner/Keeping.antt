-- For proofs and private functions alone: what a book keeps of its ids, its counts and its room.
use Rattle.std.specs.Prelude.{ℕ, ◌+◌, ◌^◌, ◌<◌, ◌≤◌, List, [], ◌∷◌, length}
use Rattle.gate_model.specs.declared.comments.Comment.{Comment}
use Rattle.gate_comments.specs.inner.Counts.{IsCounted}

-- the ids ascend, none below `low` and all below `high`
abbrev pub AreBetween : ℕ → ℕ → List Comment → Type 0
AreBetween low high [] = low ≤ high
AreBetween low high (comment ∷ comments) = (low ≤ comment.id) × AreBetween (comment.id + 1) high comments

pub record IsKept (comments : List Comment) (places : List ℕ) (downtimes next_id capacity : ℕ) : Type 0 where
  pub ids : AreBetween 1 next_id comments
  pub last : next_id ≤ 2 ^ 32
  pub counted : IsCounted places downtimes comments
  pub sized : 0 < capacity + length comments → 16384 ≤ length places
