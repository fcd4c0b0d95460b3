use Rattle.std.proofs.Common.{◌≡◌, ◌++◌, drop, map}
use Rattle.std.specs.List.{flat_map}
use Rattle.status_serving.specs.Changing.{named, changes_on}
use Rattle.status_serving.proofs.changing.all_changes.Given as goal

abbrev pub invariant-loop-one : goal.invariant-loop-one
invariant-loop-one l =
    map named l.changes.items ++ flat_map changes_on (drop l.one-index l.seen) ≡ flat_map changes_on l.seen
