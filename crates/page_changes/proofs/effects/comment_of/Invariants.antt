use Rattle.std.proofs.Common.{◌≡◌, drop, map}
use Rattle.status_reading.specs.Rows.{comment_view}
use Rattle.page_changes.specs.Effects.{comment_of}
use Rattle.page_changes.proofs.effects.comment_of.Given as goal

abbrev pub invariant-loop-row : goal.invariant-loop-row
invariant-loop-row l =
    comment_of l.last l.names l.acknowledgement l.persistent l.words (map comment_view (drop l.row-index l.rows))
    ≡ comment_of l.last l.names l.acknowledgement l.persistent l.words (map comment_view l.rows)
