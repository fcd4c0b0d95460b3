use Rattle.std.proofs.Common.{append_assoc, ◌++◌}
use Rattle.status_view.specs.ListsLayout.{window_nodes}
use Rattle.status_view.proofs.LayoutSteps.{ended}
use Rattle.status_view.proofs.lists_layout.lay_out_window.Goals as goal

pub returns : goal.returns
unfolding window_nodes
returns c =
    ended c.lay_out_duration_if.result _ _
    (c.args.layout.now ++ window_nodes c.args.row.now)
    c.lay_out_duration_if.ensures
    (rw (
      c.in_ok-lay_out_time-2.ensures,
      c.in_ok-put-3.ensures,
      c.in_ok-lay_out_time.ensures,
      c.in_ok-put-2.ensures,
      c.in_ok-put_if.ensures,
      c.in_ok-put.ensures,
    ) (simp (append_assoc, c.plan_name.ensures, c.from.ensures)))
