use Rattle.std.proofs.Common.{append_assoc, ◌++◌, map}
use Rattle.std.proofs.lemmas.List.{length-map}
use Rattle.status_view.specs.ListsLayout.{entries_table}
use Rattle.status_view.specs.Shapes.{entry_shape_view}
use Rattle.status_view.proofs.LayoutSteps.{ended}
use Rattle.status_view.proofs.lists_layout.lay_out_entries_table.Goals as goal

pub returns : goal.returns
unfolding entries_table
returns c =
    ended c.put-2.result _ _
    (c.args.layout.now ++ entries_table c.args.list c.args.all (map entry_shape_view c.args.rows.now))
    c.put-2.ensures
    (rw (
      c.in_ok-lay_out_rows.ensures,
      c.in_ok-put.ensures,
      c.in_ok-lay_out_list_columns.ensures,
      c.in_ok-lay_out_extent.ensures,
      c.in_ok-lay_out_list_title.ensures,
    ) (simp (append_assoc, length-map c.args.rows.now entry_shape_view)))
