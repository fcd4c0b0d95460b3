use Rattle.std.proofs.Common.{append_assoc, ◌++◌}
use Rattle.status_view.specs.ListsLayout.{duration_nodes}
use Rattle.status_view.proofs.LayoutSteps.{ended}
use Rattle.status_view.proofs.lists_layout.lay_out_duration.Goals as goal

pub returns : goal.returns
unfolding duration_nodes
returns c =
    ended c.lay_out_span.result _ _ (c.args.layout.now ++ duration_nodes c.args.seconds) c.lay_out_span.ensures
    (rw c.in_ok-put.ensures (simp append_assoc))
