use Rattle.std.proofs.Common.{append_assoc, ◌++◌}
use Rattle.status_view.specs.ListsLayout.{entry_nodes}
use Rattle.status_view.specs.Shapes.{entry_shape_view}
use Rattle.status_view.proofs.LayoutSteps.{ended}
use Rattle.status_view.proofs.lists_layout.lay_out_row.Goals as goal

pub returns : goal.returns
unfolding entry_nodes
returns c =
    ended c.put.result _ _
    (c.args.layout.now ++ entry_nodes c.args.list c.args.index (entry_shape_view c.args.row.now))
    c.put.ensures
    (rw (
      c.in_ok-lay_out_origins.ensures,
      c.in_ok-lay_out_words.ensures,
      c.in_ok-lay_out_marks.ensures,
      c.in_ok-lay_out_name.ensures,
    ) (simp (append_assoc, c.as_slice.ensures.value)))
