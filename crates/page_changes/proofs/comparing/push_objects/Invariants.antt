use Rattle.std.proofs.Common.{◌≡◌, ◌++◌, drop}
use Rattle.std.specs.List.{flat_map, zip}
use Rattle.page_changes.specs.Changes.{object_changes}
use Rattle.page_changes.proofs.comparing.push_objects.Given as goal

abbrev pub invariant-loop-index : goal.invariant-loop-index
invariant-loop-index l =
    l.changes.items ++ flat_map object_changes (zip (drop l.index l.before) (drop l.index l.after))
    ≡ l.fn.changes.items ++ flat_map object_changes (zip l.before l.after)
