use Rattle.std.proofs.Common.{append_assoc, ◌++◌}
use Rattle.status_view.specs.HeadLayout.{ahead_nodes}
use Rattle.status_view.proofs.LayoutSteps.{ended}
use Rattle.status_view.proofs.head_layout.lay_out_ahead.Goals as goal

pub returns : goal.returns
unfolding ahead_nodes
returns c =
    ended c.put-2.result _ _ (c.args.layout.now ++ ahead_nodes c.args.index c.args.seconds) c.put-2.ensures
    (rw (c.in_ok-lay_out_span.ensures, c.in_ok-put.ensures, c.in_ok-begin_alarm.ensures) (simp append_assoc))
