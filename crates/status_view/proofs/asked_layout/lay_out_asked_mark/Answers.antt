use Rattle.std.proofs.Common.{◌++◌}
use Rattle.status_view.specs.AskedLayout.{asked_mark_nodes}
use Rattle.status_view.proofs.LayoutSteps.{ended}
use Rattle.status_view.proofs.asked_layout.lay_out_asked_mark.Goals as goal

pub returns : goal.returns
unfolding asked_mark_nodes
returns c =
    ended c.put_if.result _ _ (c.args.layout.now ++ asked_mark_nodes c.args.begin.now c.args.mark) c.put_if.ensures
    (simp (c.is_some.ensures, c.mark_name.ensures.word))
