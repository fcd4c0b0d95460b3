use Rattle.std.proofs.Common.{◌≡◌, ◌++◌, drop, map}
use Rattle.status_view.specs.Shapes.{object_shape}
use Rattle.status_view.proofs.html.object_shapes.Given as goal

abbrev pub invariant-loop-object : goal.invariant-loop-object
invariant-loop-object l =
    l.shapes.items ++ map (object_shape l.comments) (drop l.object-index l.objects) ≡ map (object_shape l.comments) l.objects
