use Rattle.std.proofs.Common.{◌≡◌, ◌++◌, map, drop}
use Rattle.gate_pages.specs.Rows.{comment_row}
use Rattle.gate_pages.proofs.rows.comment_rows.Given as goal

abbrev pub invariant-loop-comment : goal.invariant-loop-comment
invariant-loop-comment l =
    l.rows.items ++ map (comment_row l.table l.records) (drop l.comment-index l.comments)
    ≡ map (comment_row l.table l.records) l.comments
