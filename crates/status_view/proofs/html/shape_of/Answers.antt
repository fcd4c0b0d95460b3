use Rattle.std.proofs.Common.{refl}
use Rattle.status_view.proofs.html.shape_of.Goals as goal

pub returns : goal.returns
returns c =
    rw (
      c.asked_shape.ensures,
      c.has_form.ensures,
      c.count.ensures,
      c.pending_in.ensures,
      c.urgent_in.ensures,
      c.as_slice.ensures.value,
      c.as_slice-2.ensures.value,
      c.in_ok-counted.ensures,
      c.in_ok-gateway_shapes.ensures,
      c.in_ok-object_shapes.ensures,
      c.in_ok-comment_shapes.ensures,
      c.in_ok-downtime_shapes.ensures,
    ) refl
