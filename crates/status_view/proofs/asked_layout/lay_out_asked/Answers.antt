use Rattle.std.proofs.Common.{append_assoc, ◌++◌}
use Rattle.status_view.specs.AskedLayout.{asked_nodes}
use Rattle.status_view.specs.Shapes.{shape_view}
use Rattle.status_view.proofs.LayoutSteps.{ended}
use Rattle.status_view.proofs.asked_layout.lay_out_asked.Goals as goal

pub returns : goal.returns
unfolding asked_nodes
returns c =
    ended c.put-2.result _ _ (c.args.layout.now ++ asked_nodes (shape_view c.args.shape.now)) c.put-2.ensures
    (rw (
      c.in_ok-lay_out_asked_mark-2.ensures,
      c.in_ok-lay_out_asked_mark.ensures,
      c.in_ok-lay_out_asked_texts.ensures,
      c.in_ok-lay_out_choice.ensures,
      c.in_ok-put.ensures,
    ) (simp append_assoc))
