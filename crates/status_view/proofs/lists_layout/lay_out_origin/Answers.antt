use Rattle.std.proofs.Common.{append_assoc, ◌++◌}
use Rattle.status_view.specs.ListsLayout.{origin_nodes}
use Rattle.status_view.proofs.LayoutSteps.{ended}
use Rattle.status_view.proofs.lists_layout.lay_out_origin.Goals as goal

pub returns : goal.returns
unfolding origin_nodes
returns c =
    ended c.put.result _ _
    (c.args.layout.now ++ origin_nodes c.args.list c.args.index c.args.gateway c.args.id)
    c.put.ensures
    (rw c.in_ok-put_if.ensures (simp (append_assoc, c.from.ensures)))
