use Rattle.std.proofs.Common.{append_assoc, ◌++◌}
use Rattle.status_view.specs.AskedLayout.{texts_nodes}
use Rattle.status_view.proofs.LayoutSteps.{ended}
use Rattle.status_view.proofs.asked_layout.lay_out_texts.Goals as goal

pub returns : goal.returns
unfolding texts_nodes
returns c =
    ended c.lay_out_text-5.result _ _ (c.args.layout.now ++ texts_nodes) c.lay_out_text-5.ensures
    (rw (
      c.in_ok-lay_out_text-4.ensures,
      c.in_ok-lay_out_text-3.ensures,
      c.in_ok-lay_out_text-2.ensures,
      c.in_ok-lay_out_text.ensures,
    ) (simp append_assoc))
