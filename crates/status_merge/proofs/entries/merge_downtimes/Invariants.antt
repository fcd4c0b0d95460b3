use Rattle.std.proofs.Common.{◌≡◌, ◌++◌, map}
use Rattle.std.specs.Vec.Iter.{into_iter_items}
use Rattle.status_merge.specs.Asking.{asked_by}
use Rattle.status_merge.specs.Entries.{downtime_line, downtime_lines, downtime_view}
use Rattle.status_merge.specs.inner.Views.{group_view}
use Rattle.status_merge.proofs.entries.merge_downtimes.Given as goal

abbrev pub invariant-loop-group : goal.invariant-loop-group
invariant-loop-group l =
    map downtime_view l.lines.items ++ map downtime_line (map group_view (into_iter_items l.group-iterator))
    ≡ downtime_lines (asked_by l.query) l.gateways
