use Rattle.std.proofs.Common.{append_assoc, ◌++◌}
use Rattle.status_view.specs.HeadLayout.{document_nodes}
use Rattle.status_view.proofs.LayoutSteps.{ended}
use Rattle.status_view.proofs.head_layout.lay_out_document.Goals as goal

pub returns : goal.returns
unfolding document_nodes
returns c =
    ended c.put-3.result _ _ (c.args.layout.now ++ document_nodes c.args.refresh c.args.unhandled) c.put-3.ensures
    (rw (
      c.in_ok-lay_out_unhandled.ensures,
      c.in_ok-put-2.ensures,
      c.in_ok-lay_out_refresh.ensures,
      c.in_ok-put.ensures,
    ) (simp append_assoc))
