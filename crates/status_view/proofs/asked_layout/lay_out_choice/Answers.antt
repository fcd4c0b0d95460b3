use Rattle.std.proofs.Common.{◌++◌}
use Rattle.status_view.specs.AskedLayout.{choice_nodes}
use Rattle.status_view.proofs.LayoutSteps.{ended}
use Rattle.status_view.proofs.asked_layout.lay_out_choice.Goals as goal

pub returns : goal.returns
unfolding choice_nodes
returns c =
    ended c.put_if.result _ _ (c.args.layout.now ++ choice_nodes c.args.choice) c.put_if.ensures
    (simp (c.same_choice.ensures, c.choice_name.ensures.word))
