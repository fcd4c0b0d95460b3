use Rattle.std.proofs.Common.{append_assoc, ◌++◌}
use Rattle.status_view.specs.HeadLayout.{page_moment_nodes}
use Rattle.status_view.proofs.LayoutSteps.{ended}
use Rattle.status_view.proofs.head_layout.lay_out_page_moment.Goals as goal

pub returns : goal.returns
unfolding page_moment_nodes
returns c =
    ended c.put-2.result _ _ (c.args.layout.now ++ page_moment_nodes c.args.index c.args.moment) c.put-2.ensures
    (rw (c.in_ok-lay_out_time.ensures, c.in_ok-put.ensures) (simp append_assoc))
