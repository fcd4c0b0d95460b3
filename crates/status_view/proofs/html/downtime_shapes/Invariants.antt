use Rattle.std.proofs.Common.{◌≡◌, ◌++◌, drop, map}
use Rattle.status_view.specs.Shapes.{entry_shape_view, downtime_shape}
use Rattle.status_view.proofs.html.downtime_shapes.Given as goal

abbrev pub invariant-loop-line : goal.invariant-loop-line
invariant-loop-line l =
    map entry_shape_view l.shapes.items ++ map downtime_shape (drop l.line-index l.lines)
    ≡ map downtime_shape l.lines
