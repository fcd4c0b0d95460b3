use Rattle.std.proofs.Common.{◌++◌}
use Rattle.status_view.specs.ChangesLayout.{feed_id_nodes}
use Rattle.status_view.proofs.LayoutSteps.{ended}
use Rattle.status_view.proofs.changes.lay_out_feed_id.Goals as goal

pub returns : goal.returns
unfolding feed_id_nodes
returns c =
    ended c.put.result _ _ (c.args.layout.now ++ feed_id_nodes c.args.index c.args.row.now) c.put.ensures
    (simp (c.from.ensures, c.from_name.ensures, c.state_name.ensures))
