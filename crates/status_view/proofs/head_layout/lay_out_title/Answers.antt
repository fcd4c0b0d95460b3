use Rattle.std.proofs.Common.{append_assoc, ◌++◌, map}
use Rattle.status_view.specs.HeadLayout.{title_nodes}
use Rattle.status_view.specs.Shapes.{gateway_shape_view}
use Rattle.status_view.proofs.LayoutSteps.{ended}
use Rattle.status_view.proofs.head_layout.lay_out_title.Goals as goal

pub returns : goal.returns
unfolding title_nodes
returns c =
    ended c.put-2.result _ _ (c.args.layout.now ++ title_nodes (map gateway_shape_view c.args.gateways.now)) c.put-2.ensures
    (rw (c.in_ok-lay_out_gateways.ensures, c.in_ok-put.ensures) (simp append_assoc))
