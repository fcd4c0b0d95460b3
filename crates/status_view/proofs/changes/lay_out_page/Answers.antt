use Rattle.std.proofs.Common.{append_assoc, ◌++◌, map}
use Rattle.status_view.specs.ChangesLayout.{changes_nodes}
use Rattle.status_view.specs.Shapes.{gateway_shape_view}
use Rattle.status_view.proofs.LayoutSteps.{ended}
use Rattle.status_view.proofs.changes.lay_out_page.Goals as goal

pub returns : goal.returns
unfolding changes_nodes
returns c =
    ended c.put.result _ _ (c.args.layout.now ++ changes_nodes c.args.refresh (map gateway_shape_view c.args.gateways.now) c.args.rows.now) c.put.ensures
    (rw (
      c.in_ok-lay_out_changes_table.ensures,
      c.in_ok-lay_out_alarms.ensures,
      c.in_ok-lay_out_title.ensures,
      c.in_ok-lay_out_document.ensures,
    ) (simp append_assoc))
