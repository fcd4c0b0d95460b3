use Rattle.std.proofs.Common.{◌≡◌, ◌++◌, drop, map}
use Rattle.page_changes.specs.Changes.{downtimes_without}
use Rattle.page_changes.specs.declared.comparing.Change.TheVariants.{DowntimeGone}
use Rattle.page_changes.proofs.comparing.push_gone_downtimes.Given as goal

abbrev pub invariant-loop-row : goal.invariant-loop-row
invariant-loop-row l =
    l.changes.items ++ map DowntimeGone (downtimes_without (drop l.row-index l.rows) l.others)
    ≡ l.fn.changes.items ++ map DowntimeGone (downtimes_without l.rows l.others)
