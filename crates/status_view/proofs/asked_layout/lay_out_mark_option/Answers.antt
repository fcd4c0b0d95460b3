use Rattle.std.proofs.Common.{append_assoc, ◌++◌}
use Rattle.status_view.specs.AskedLayout.{mark_option_nodes}
use Rattle.status_view.proofs.LayoutSteps.{ended}
use Rattle.status_view.proofs.asked_layout.lay_out_mark_option.Goals as goal

pub returns : goal.returns
unfolding mark_option_nodes
returns c =
    ended c.put-2.result _ _ (c.args.layout.now ++ mark_option_nodes c.args.chosen c.args.mark) c.put-2.ensures
    (rw (
      c.in_ok-put_if.ensures,
      c.in_ok-put.ensures,
    ) (simp (append_assoc, c.mark_name.ensures.word, c.same_mark.ensures)))
