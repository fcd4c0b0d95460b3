use Rattle.std.proofs.Common.{append_assoc, ◌++◌}
use Rattle.status_view.specs.ObjectsLayout.{objects_nodes}
use Rattle.status_view.specs.Shapes.{shape_view}
use Rattle.status_view.proofs.LayoutSteps.{ended}
use Rattle.status_view.proofs.objects_layout.lay_out_objects.Goals as goal

pub returns : goal.returns
unfolding objects_nodes
returns c =
    ended c.lay_out_pages.result _ _
    (c.args.layout.now ++ objects_nodes (shape_view c.args.shape.now))
    c.lay_out_pages.ensures
    (rw (c.in_ok-lay_out_table.ensures, c.in_ok-put-2.ensures, c.in_ok-lay_out_to_marks.ensures, c.in_ok-put.ensures)
    (simp (
      append_assoc,
      c.as_slice-rows.ensures.value,
      c.as_slice.ensures.value,
      c.are_several-several.ensures,
    )))
