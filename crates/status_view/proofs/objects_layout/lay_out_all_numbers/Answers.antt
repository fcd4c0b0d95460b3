use Rattle.std.proofs.Common.{append_assoc, ◌++◌}
use Rattle.status_view.specs.ObjectsLayout.{numbers_nodes}
use Rattle.status_view.proofs.LayoutSteps.{ended}
use Rattle.status_view.proofs.objects_layout.lay_out_all_numbers.Goals as goal

pub returns : goal.returns
unfolding numbers_nodes
returns c =
    ended c.put-2.result _ _ (c.args.layout.now ++ numbers_nodes c.args.path.now c.args.shown c.args.count) c.put-2.ensures
    (rw (c.in_ok-lay_out_numbers.ensures, c.in_ok-put.ensures) (simp append_assoc))
