use Rattle.std.proofs.Common.{append_assoc, ◌++◌}
use Rattle.status_view.specs.Times.{time_nodes}
use Rattle.status_view.proofs.LayoutSteps.{ended}
use Rattle.status_view.proofs.times.lay_out_time.Goals as goal

pub returns : goal.returns
unfolding time_nodes
returns c =
    ended c.put-3.result _ _ (c.args.layout.now ++ time_nodes c.args.moment) c.put-3.ensures
    (rw (
      c.in_ok-lay_out_moment-2.ensures,
      c.in_ok-put-2.ensures,
      c.in_ok-lay_out_moment.ensures,
      c.in_ok-put.ensures,
    ) (simp append_assoc))
