use Rattle.std.proofs.Common.{◌≡◌, ◌++◌, map, drop}
use Rattle.status_reading.specs.Rows.{comment_view}
use Rattle.status_view.specs.Filling.{html_bytes}
use Rattle.desk_view.specs.Page.{comments_parts}
use Rattle.desk_view.proofs.page.put_comments.Given as goal

abbrev pub invariant-loop-row : goal.invariant-loop-row
invariant-loop-row l =
    l.html ++ html_bytes (comments_parts l.of l.gateway (map comment_view (drop l.row-index l.rows)))
    ≡ l.initial.html ++ html_bytes (comments_parts l.of l.gateway (map comment_view l.rows))
