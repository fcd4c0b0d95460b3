use Rattle.std.proofs.Common.{◌≡◌, ◌++◌, length, take, drop}
use Rattle.gate_comments.specs.Book.{without}
use Rattle.gate_comments.specs.inner.Counts.{IsCounted}
use Rattle.gate_comments.proofs.counts.Counts.remove_all.Given as goal

abbrev pub invariant-loop-comment : goal.invariant-loop-comment
invariant-loop-comment l = record {
  len : length l.self.places.items ≡ length l.initial.self.places.items;
  counted : IsCounted l.self.places.items l.self.downtimes (without l.event (take l.comment-index l.comments) ++ drop l.comment-index l.comments);
}
