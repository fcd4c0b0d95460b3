use Rattle.std.proofs.Common.{append_assoc, ◌++◌}
use Rattle.status_view.specs.Page.{head_nodes}
use Rattle.status_view.specs.Shapes.{shape_view}
use Rattle.status_view.proofs.LayoutSteps.{ended}
use Rattle.status_view.proofs.shape.lay_out_head.Goals as goal

pub returns : goal.returns
unfolding head_nodes
returns c =
    ended c.lay_out_filter.result _ _
    (c.args.layout.now ++ head_nodes (shape_view c.args.shape.now))
    c.lay_out_filter.ensures
    (rw (
      c.in_ok-lay_out_summary.ensures,
      c.in_ok-lay_out_alarms.ensures,
      c.in_ok-lay_out_title.ensures,
      c.in_ok-lay_out_document.ensures,
      c.seconds_of.ensures,
    ) (simp (append_assoc, c.as_slice-gateways.ensures.value)))
