use Rattle.std.proofs.Common.{append_assoc, ◌++◌}
use Rattle.status_view.specs.OneObject.{name_nodes}
use Rattle.status_view.proofs.LayoutSteps.{ended}
use Rattle.status_view.proofs.one_object.lay_out_name.Goals as goal

pub returns : goal.returns
unfolding name_nodes
returns c =
    ended c.put-3.result _ _ (c.args.layout.now ++ name_nodes c.args.is_host) c.put-3.ensures
    (rw (
      c.in_ok-put_if-2.ensures,
      c.in_ok-put-2.ensures,
      c.in_ok-put_if.ensures,
      c.in_ok-put.ensures,
    ) (simp append_assoc))
