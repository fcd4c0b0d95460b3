use Rattle.std.proofs.Common.{append_assoc, ◌++◌}
use Rattle.status_view.specs.AskedLayout.{option_nodes}
use Rattle.status_view.proofs.LayoutSteps.{ended}
use Rattle.status_view.proofs.asked_layout.lay_out_option.Goals as goal

pub returns : goal.returns
unfolding option_nodes
returns c =
    ended c.put-2.result _ _ (c.args.layout.now ++ option_nodes c.args.chosen c.args.choice) c.put-2.ensures
    (rw (
      c.in_ok-put_if.ensures,
      c.in_ok-put.ensures,
    ) (simp (append_assoc, c.choice_name.ensures.word, c.same_choice.ensures)))
