use Rattle.std.proofs.Common.{append_assoc, ◌++◌}
use Rattle.status_view.specs.OneObject.{object_page_nodes}
use Rattle.status_view.specs.Shapes.{shape_view}
use Rattle.status_view.proofs.LayoutSteps.{ended}
use Rattle.status_view.proofs.one_object.lay_out_page.Goals as goal

pub returns : goal.returns
unfolding object_page_nodes
returns c =
    ended c.lay_out_end.result _ _
    (c.args.layout.now ++ object_page_nodes (shape_view c.args.shape.now) c.args.changes.now)
    c.lay_out_end.ensures
    (rw (
      c.in_ok-lay_out_changes_table.ensures,
      c.in_ok-lay_out_entries-2.ensures,
      c.in_ok-lay_out_entries.ensures,
      c.in_ok-lay_out_head.ensures,
    ) (simp (append_assoc, c.as_slice.ensures.value, c.as_slice-2.ensures.value)))
