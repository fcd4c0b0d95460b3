use Rattle.std.proofs.Common.{append_assoc, ◌++◌}
use Rattle.status_view.specs.ListsLayout.{entry_name_nodes}
use Rattle.status_view.proofs.LayoutSteps.{ended}
use Rattle.status_view.proofs.lists_layout.lay_out_name.Goals as goal

pub returns : goal.returns
unfolding entry_name_nodes
returns c =
    ended c.put-2.result _ _
    (c.args.layout.now ++ entry_name_nodes c.args.list c.args.index c.args.is_host)
    c.put-2.ensures
    (rw (c.in_ok-put_if.ensures, c.in_ok-put.ensures) (simp append_assoc))
