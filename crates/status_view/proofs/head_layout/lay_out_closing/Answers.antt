use Rattle.std.proofs.Common.{append_assoc, ◌++◌}
use Rattle.status_view.specs.HeadLayout.{closing_nodes}
use Rattle.status_view.proofs.LayoutSteps.{ended}
use Rattle.status_view.proofs.head_layout.lay_out_closing.Goals as goal

pub returns : goal.returns
unfolding closing_nodes
returns c =
    ended c.put.result _ _ (c.args.layout.now ++ closing_nodes c.args.index) c.put.ensures
    (rw c.in_ok-begin_alarm.ensures (simp append_assoc))
