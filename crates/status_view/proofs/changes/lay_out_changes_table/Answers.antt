use Rattle.std.proofs.Common.{append_assoc, ◌++◌}
use Rattle.status_view.specs.ChangesLayout.{changes_table}
use Rattle.status_view.proofs.LayoutSteps.{ended}
use Rattle.status_view.proofs.changes.lay_out_changes_table.Goals as goal

pub returns : goal.returns
unfolding changes_table
returns c =
    ended c.put-2.result _ _ (c.args.layout.now ++ changes_table c.args.rows.now) c.put-2.ensures
    (rw (c.in_ok-lay_out_changes.ensures, c.in_ok-put.ensures) (simp append_assoc))
