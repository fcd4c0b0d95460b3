use Rattle.std.proofs.Common.{◌≡◌, drop, map}
use Rattle.status_reading.specs.Rows.{comment_view}
use Rattle.page_changes.specs.Effects.{has_none_of}
use Rattle.page_changes.proofs.effects.has_none_of.Given as goal

abbrev pub invariant-loop-row : goal.invariant-loop-row
invariant-loop-row l =
    has_none_of l.last l.names (map comment_view (drop l.row-index l.rows)) ≡ has_none_of l.last l.names (map comment_view l.rows)
