use Rattle.std.proofs.Common.{append_assoc, ◌++◌}
use Rattle.status_view.specs.AskedLayout.{asked_texts_nodes}
use Rattle.status_view.specs.Shapes.{shape_view}
use Rattle.status_view.proofs.LayoutSteps.{ended}
use Rattle.status_view.proofs.asked_layout.lay_out_asked_texts.Goals as goal

pub returns : goal.returns
unfolding asked_texts_nodes
returns c =
    ended c.lay_out_asked_text-5.result _ _
    (c.args.layout.now ++ asked_texts_nodes (shape_view c.args.shape.now))
    c.lay_out_asked_text-5.ensures
    (rw (
      c.in_ok-lay_out_asked_text-4.ensures,
      c.in_ok-lay_out_asked_text-3.ensures,
      c.in_ok-lay_out_asked_text-2.ensures,
      c.in_ok-lay_out_asked_text.ensures,
    ) (simp append_assoc))
