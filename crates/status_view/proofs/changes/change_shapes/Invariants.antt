use Rattle.std.proofs.Common.{◌≡◌, ◌++◌, drop, map}
use Rattle.status_view.specs.ChangesLayout.{change_shape}
use Rattle.status_view.proofs.changes.change_shapes.Given as goal

abbrev pub invariant-loop-shown : goal.invariant-loop-shown
invariant-loop-shown l =
    l.shapes.items ++ map change_shape (drop l.shown-index l.changes) ≡ map change_shape l.changes
