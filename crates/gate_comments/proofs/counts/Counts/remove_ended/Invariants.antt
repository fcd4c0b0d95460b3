use Rattle.std.proofs.Common.{◌≡◌, ℕ, Bool, ◌++◌, length, take, drop}
use Rattle.gate_comments.specs.Book.{with_live, AnswersBy}
use Rattle.gate_comments.specs.inner.Counts.{IsCounted}
use Rattle.gate_comments.proofs.counts.Counts.remove_ended.Given as goal

abbrev pub invariant-loop-comment : goal.invariant-loop-comment
invariant-loop-comment g l = record {
  len : length l.self.places.items ≡ length l.initial.self.places.items;
  counted : (live : ℕ → Bool) → AnswersBy (goal.L-post g l.is_live) live
      → IsCounted l.self.places.items l.self.downtimes (with_live live (take l.comment-index l.comments) ++ drop l.comment-index l.comments);
}
