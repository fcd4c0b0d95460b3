use Rattle.std.proofs.Common.{append_assoc, ◌++◌}
use Rattle.status_view.specs.ObjectsLayout.{objects_table}
use Rattle.status_view.proofs.LayoutSteps.{ended}
use Rattle.status_view.proofs.objects_layout.lay_out_table.Goals as goal

pub returns : goal.returns
unfolding objects_table
returns c =
    ended c.put-5.result _ _ (c.args.layout.now ++ objects_table c.args.sort c.args.several c.args.rows.now) c.put-5.ensures
    (rw (
      c.in_ok-lay_out_rows.ensures,
      c.in_ok-put-4.ensures,
      c.in_ok-put_if.ensures,
      c.in_ok-put-3.ensures,
      c.in_ok-lay_out_column-4.ensures,
      c.in_ok-lay_out_column-3.ensures,
      c.in_ok-put-2.ensures,
      c.in_ok-lay_out_column-2.ensures,
      c.in_ok-lay_out_column.ensures,
      c.in_ok-put.ensures,
    ) (simp append_assoc))
