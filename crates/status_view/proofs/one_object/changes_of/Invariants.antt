use Rattle.std.proofs.Common.{◌≡◌, ◌++◌, drop, filter}
use Rattle.status_view.specs.OneObject.{is_change_of, changes_asked}
use Rattle.status_view.proofs.one_object.changes_of.Given as goal

abbrev pub invariant-loop-shown : goal.invariant-loop-shown
invariant-loop-shown l =
    l.changes.items
    ++ filter (is_change_of l.asked) (drop l.shown-index l.shown-items)
    ≡ changes_asked l.asked
