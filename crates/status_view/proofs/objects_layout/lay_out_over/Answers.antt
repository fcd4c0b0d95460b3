use Rattle.std.proofs.Common.{append_assoc, ◌++◌}
use Rattle.status_view.specs.ObjectsLayout.{over_nodes}
use Rattle.status_view.proofs.LayoutSteps.{ended}
use Rattle.status_view.proofs.objects_layout.lay_out_over.Goals as goal

pub returns : goal.returns
unfolding over_nodes
returns c =
    ended c.put-3.result _ _ (c.args.layout.now ++ over_nodes c.args.begin.now c.args.moment c.args.past) c.put-3.ensures
    (rw (
      c.in_ok-lay_out_span.ensures,
      c.in_ok-put-2.ensures,
      c.in_ok-lay_out_moment.ensures,
      c.in_ok-put.ensures,
    ) (simp (append_assoc, c.saturating_sub.ensures)))
