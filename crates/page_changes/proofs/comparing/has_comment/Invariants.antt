use Rattle.std.proofs.Common.{◌≡◌, drop}
use Rattle.std.specs.List.{list_any}
use Rattle.page_changes.specs.Changes.{is_same_comment}
use Rattle.page_changes.proofs.comparing.has_comment.Given as goal

abbrev pub invariant-loop-row : goal.invariant-loop-row
invariant-loop-row l =
    list_any (is_same_comment l.wanted) (drop l.row-index l.rows) ≡ list_any (is_same_comment l.wanted) l.rows
