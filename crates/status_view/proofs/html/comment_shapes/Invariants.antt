use Rattle.std.proofs.Common.{◌≡◌, ◌++◌, drop, map}
use Rattle.status_view.specs.Shapes.{entry_shape_view, comment_shape}
use Rattle.status_view.proofs.html.comment_shapes.Given as goal

abbrev pub invariant-loop-line : goal.invariant-loop-line
invariant-loop-line l =
    map entry_shape_view l.shapes.items ++ map comment_shape (drop l.line-index l.lines)
    ≡ map comment_shape l.lines
