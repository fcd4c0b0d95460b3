use Rattle.std.proofs.Common.{append_assoc, ◌++◌}
use Rattle.status_view.specs.HeadLayout.{other_nodes}
use Rattle.status_view.proofs.LayoutSteps.{ended}
use Rattle.status_view.proofs.head_layout.lay_out_other.Goals as goal

pub returns : goal.returns
unfolding other_nodes
returns c =
    ended c.put.result _ _ (c.args.layout.now ++ other_nodes c.args.index) c.put.ensures
    (rw c.in_ok-begin_alarm.ensures (simp append_assoc))
