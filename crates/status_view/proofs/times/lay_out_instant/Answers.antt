use Rattle.std.proofs.Common.{append_assoc, ◌++◌}
use Rattle.status_view.specs.Times.{instant_nodes}
use Rattle.status_view.proofs.LayoutSteps.{ended}
use Rattle.status_view.proofs.times.lay_out_instant.Goals as goal

pub returns : goal.returns
unfolding instant_nodes
returns c =
    ended c.lay_out_clock.result _ _ (c.args.layout.now ++ instant_nodes c.args.between.now c.args.moment) c.lay_out_clock.ensures
    (rw (
      c.in_ok-put.ensures,
      c.in_ok-lay_out_date.ensures,
    ) (simp append_assoc))
