use Rattle.std.proofs.Common.{append_assoc, ◌++◌}
use Rattle.status_view.specs.SummaryLayout.{tile_view, tile_nodes}
use Rattle.status_view.specs.Shapes.{shape_view}
use Rattle.status_view.proofs.LayoutSteps.{ended}
use Rattle.status_view.proofs.summary_layout.lay_out_tile.Goals as goal

pub returns : goal.returns
unfolding tile_nodes
returns c =
    ended c.put-2.result _ _
    (c.args.layout.now ++ tile_nodes (shape_view c.args.shape.now) (tile_view c.args.tile.now))
    c.put-2.ensures
    (rw (
      c.in_ok-put_if-2.ensures,
      c.in_ok-put_if.ensures,
      c.in_ok-put.ensures,
      c.choice_name.ensures.word,
      c.same_choice.ensures,
    ) (simp append_assoc))
