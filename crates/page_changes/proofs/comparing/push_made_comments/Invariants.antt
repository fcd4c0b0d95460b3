use Rattle.std.proofs.Common.{◌≡◌, ◌++◌, drop, map}
use Rattle.page_changes.specs.Changes.{comments_without}
use Rattle.page_changes.specs.declared.comparing.Change.TheVariants.{CommentMade}
use Rattle.page_changes.proofs.comparing.push_made_comments.Given as goal

abbrev pub invariant-loop-row : goal.invariant-loop-row
invariant-loop-row l =
    l.changes.items ++ map CommentMade (comments_without (drop l.row-index l.rows) l.others)
    ≡ l.fn.changes.items ++ map CommentMade (comments_without l.rows l.others)
