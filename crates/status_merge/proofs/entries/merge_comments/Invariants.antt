use Rattle.std.proofs.Common.{◌≡◌, ◌++◌, map}
use Rattle.std.specs.Vec.Iter.{into_iter_items}
use Rattle.status_merge.specs.Asking.{asked_by}
use Rattle.status_merge.specs.Entries.{comment_line, comment_lines, comment_view}
use Rattle.status_merge.specs.inner.Views.{group_view}
use Rattle.status_merge.proofs.entries.merge_comments.Given as goal

abbrev pub invariant-loop-group : goal.invariant-loop-group
invariant-loop-group l =
    map comment_view l.lines.items ++ map comment_line (map group_view (into_iter_items l.group-iterator))
    ≡ comment_lines (asked_by l.query) l.gateways
