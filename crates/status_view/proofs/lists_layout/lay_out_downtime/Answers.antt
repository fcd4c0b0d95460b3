use Rattle.std.proofs.Common.{append_assoc, ◌++◌}
use Rattle.status_view.specs.ListsLayout.{window_nodes, began_nodes}
use Rattle.status_view.proofs.LayoutSteps.{ended}
use Rattle.status_view.proofs.lists_layout.lay_out_downtime.Goals as goal

pub returns : goal.returns
returns c =
    ended c.lay_out_begin.result _ _
    (c.args.layout.now ++ (window_nodes c.args.row.now ++ began_nodes c.args.row.now.moment c.args.row.now.begin))
    c.lay_out_begin.ensures
    (rw c.in_ok-lay_out_window.ensures (simp append_assoc))
