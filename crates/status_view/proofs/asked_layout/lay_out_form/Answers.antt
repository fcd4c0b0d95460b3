use Rattle.std.proofs.Common.{append_assoc, ◌++◌}
use Rattle.status_view.specs.AskedLayout.{form_nodes}
use Rattle.status_view.specs.Shapes.{shape_view}
use Rattle.status_view.proofs.LayoutSteps.{ended}
use Rattle.status_view.proofs.asked_layout.lay_out_form.Goals as goal

pub returns : goal.returns
unfolding form_nodes
returns c =
    ended c.put-3.result _ _ (c.args.layout.now ++ form_nodes (shape_view c.args.shape.now)) c.put-3.ensures
    (rw (
      c.in_ok-lay_out_mark-2.ensures,
      c.in_ok-lay_out_mark.ensures,
      c.in_ok-lay_out_texts.ensures,
      c.in_ok-put-2.ensures,
      c.in_ok-lay_out_choices.ensures,
      c.in_ok-put.ensures,
      c.sort_name.ensures.word,
    ) (simp (append_assoc, c.from.ensures)))
