use Rattle.std.proofs.Common.{◌≡◌, drop, map}
use Rattle.status_reading.specs.Rows.{comment_view}
use Rattle.desk_forms.specs.Requests.{shows_comment}
use Rattle.desk_forms.proofs.requests.shows_comment.Given as goal

abbrev pub invariant-loop-row : goal.invariant-loop-row
invariant-loop-row l =
    shows_comment l.id (map comment_view (drop l.row-index l.rows)) ≡ shows_comment l.id (map comment_view l.rows)
