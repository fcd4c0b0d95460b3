use Rattle.std.proofs.Common.{◌≡◌, ◌++◌, drop, map}
use Rattle.std.specs.List.{flat_map}
use Rattle.status_memory.specs.History.{change_view}
use Rattle.status_memory.specs.inner.Known.{change_at}
use Rattle.status_memory.proofs.history.all_changes.Given as goal

abbrev pub invariant-loop-row : goal.invariant-loop-row
invariant-loop-row l =
    map change_view l.changes.items ++ flat_map (change_at l.found l.moment) (drop l.row-index l.rows)
    ≡ flat_map (change_at l.found l.moment) l.rows
