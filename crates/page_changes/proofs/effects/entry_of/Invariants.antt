use Rattle.std.proofs.Common.{◌≡◌, drop, map}
use Rattle.status_reading.specs.Rows.{downtime_view}
use Rattle.page_changes.specs.Effects.{entry_of}
use Rattle.page_changes.proofs.effects.entry_of.Given as goal

abbrev pub invariant-loop-row : goal.invariant-loop-row
invariant-loop-row l =
    entry_of l.last l.host l.service l.span l.words (map downtime_view (drop l.row-index l.rows))
    ≡ entry_of l.last l.host l.service l.span l.words (map downtime_view l.rows)
