use Rattle.std.proofs.Common.{append_assoc, ◌++◌}
use Rattle.status_view.specs.SummaryLayout.{summary_nodes}
use Rattle.status_view.specs.Shapes.{shape_view}
use Rattle.status_view.proofs.LayoutSteps.{ended}
use Rattle.status_view.proofs.summary_layout.lay_out_summary.Goals as goal

pub returns : goal.returns
unfolding summary_nodes
returns c =
    ended c.put-2.result _ _
    (c.args.layout.now ++ summary_nodes (shape_view c.args.shape.now))
    c.put-2.ensures
    (rw (
      c.in_ok-lay_out_services.ensures,
      c.in_ok-lay_out_hosts.ensures,
      c.in_ok-lay_out_all.ensures,
      c.in_ok-put.ensures,
    ) (simp append_assoc))
