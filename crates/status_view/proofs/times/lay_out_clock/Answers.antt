use Rattle.std.proofs.Common.{append_assoc, ◌++◌}
use Rattle.status_view.specs.Times.{clock_nodes}
use Rattle.status_view.proofs.LayoutSteps.{ended}
use Rattle.status_view.proofs.times.lay_out_clock.Goals as goal

pub returns : goal.returns
unfolding clock_nodes
returns c =
    ended c.put-3.result _ _ (c.args.layout.now ++ clock_nodes c.args.second) c.put-3.ensures
    (rw (
      c.in_ok-lay_out_two-3.ensures,
      c.in_ok-put-2.ensures,
      c.in_ok-lay_out_two-2.ensures,
      c.in_ok-put.ensures,
      c.in_ok-lay_out_two.ensures,
    ) (simp append_assoc))
