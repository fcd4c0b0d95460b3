use Rattle.std.proofs.Common.{append_assoc, ◌++◌, Some}
use Rattle.status_view.specs.Shapes.{shape_view}
use Rattle.status_view.specs.ListsLayout.{entries_table}
use Rattle.status_view.specs.ObjectsLayout.{pages_nodes}
use Rattle.status_view.specs.EntriesPage.{rows_in, list_path}
use Rattle.status_view.proofs.LayoutSteps.{ended}
use Rattle.status_view.proofs.all_entries.lay_out_some.Goals as goal

pub returns : goal.returns
returns c =
    let shape = shape_view c.args.shape.now in
    ended c.lay_out_pages.result _ _
    (c.args.layout.now ++ (entries_table c.args.list (Some shape.selected) (rows_in c.args.list shape) ++ pages_nodes (list_path c.args.list) shape.page shape.selected))
    c.lay_out_pages.ensures
    (rw (c.in_ok-lay_out_entries_table.ensures, c.rows_in-rows.ensures, c.list_path.ensures) (simp append_assoc))
