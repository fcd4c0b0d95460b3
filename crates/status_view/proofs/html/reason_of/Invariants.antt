use Rattle.std.proofs.Common.{◌≡◌, ℕ, None, drop, filter, map}
use Rattle.std.specs.List.{enumerate_from, last_or}
use Rattle.status_merge.specs.declared.entries.CommentLine.{CommentLine}
use Rattle.status_view.specs.Shapes.{is_reason_of}
use Rattle.status_view.proofs.html.reason_of.Given as goal

abbrev pub invariant-loop-index : goal.invariant-loop-index
invariant-loop-index l =
    last_or l.reason
    (map (λ (item : ℕ × CommentLine). item.0)
    (filter (λ (item : ℕ × CommentLine). is_reason_of l.shown item.1) (enumerate_from l.index (drop l.index l.comments))))
    ≡ last_or None
    (map (λ (item : ℕ × CommentLine). item.0)
    (filter (λ (item : ℕ × CommentLine). is_reason_of l.shown item.1) (enumerate_from 0 l.comments)))
