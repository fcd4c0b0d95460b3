use Rattle.std.proofs.Common.{◌≡◌, ◌++◌, drop, map}
use Rattle.status_memory.specs.History.{change_view}
use Rattle.status_serving.specs.Changing.{named, changes_on}
use Rattle.status_serving.proofs.changing.push_changes.Given as goal

abbrev pub invariant-loop-change : goal.invariant-loop-change
invariant-loop-change l =
    map named l.changes.items
    ++ map (λ change. (l.seen.place.name.now, change_view change)) (drop l.change-index l.change-items)
    ≡ map named l.fn.changes.items ++ changes_on l.seen
