use Rattle.std.proofs.Common.{append_assoc, ◌++◌, map}
use Rattle.status_view.specs.SummaryLayout.{tile_view, group_nodes}
use Rattle.status_view.specs.Shapes.{shape_view}
use Rattle.status_view.proofs.LayoutSteps.{ended}
use Rattle.status_view.proofs.summary_layout.lay_out_group.Goals as goal

pub returns : goal.returns
unfolding group_nodes
returns c =
    ended c.put-2.result _ _
    (c.args.layout.now ++ group_nodes (shape_view c.args.shape.now) c.args.title.now (map tile_view c.args.tiles.now))
    c.put-2.ensures
    (rw (c.in_ok-lay_out_tiles.ensures, c.in_ok-put.ensures) (simp append_assoc))
