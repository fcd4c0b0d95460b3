use Rattle.std.proofs.Common.{◌≡◌, drop, map}
use Rattle.status_reading.specs.Rows.{object_view, downtime_view}
use Rattle.page_changes.specs.Effects.{has_entries}
use Rattle.page_changes.proofs.effects.has_entries.Given as goal

abbrev pub invariant-loop-row : goal.invariant-loop-row
invariant-loop-row l =
    has_entries l.last l.names.host l.span l.words (map object_view (drop l.row-index l.rows)) (map downtime_view l.entries)
    ≡ has_entries l.last l.names.host l.span l.words (map object_view l.rows) (map downtime_view l.entries)
