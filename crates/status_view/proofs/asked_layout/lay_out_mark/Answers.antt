use Rattle.std.proofs.Common.{append_assoc, ◌++◌}
use Rattle.status_view.specs.AskedLayout.{mark_nodes}
use Rattle.status_view.proofs.LayoutSteps.{ended}
use Rattle.status_view.proofs.asked_layout.lay_out_mark.Goals as goal

pub returns : goal.returns
unfolding mark_nodes
returns c =
    ended c.put-2.result _ _ (c.args.layout.now ++ mark_nodes c.args.begin.now c.args.chosen) c.put-2.ensures
    (rw (
      c.in_ok-lay_out_mark_option-3.ensures,
      c.in_ok-lay_out_mark_option-2.ensures,
      c.in_ok-lay_out_mark_option.ensures,
      c.in_ok-put.ensures,
    ) (simp append_assoc))
