use Rattle.std.proofs.Common.{◌≡◌, ◌++◌, drop, filter, map}
use Rattle.status_merge.specs.Asking.{asked_by}
use Rattle.status_merge.specs.Entries.{downtime_by}
use Rattle.status_merge.specs.Selecting.{has_host}
use Rattle.status_merge.proofs.entries.add_downtimes.Given as goal

abbrev pub invariant-loop-row : goal.invariant-loop-row
invariant-loop-row l =
    l.entries.items
    ++ map (downtime_by l.gateway.name l.page.moment) (filter (λ row. has_host (asked_by l.query) row.host.now) (drop l.row-index l.row-items))
    ≡ l.fn.entries.items
    ++ map (downtime_by l.gateway.name l.page.moment) (filter (λ row. has_host (asked_by l.query) row.host.now) l.row-items)
