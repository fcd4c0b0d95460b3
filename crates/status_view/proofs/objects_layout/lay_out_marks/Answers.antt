use Rattle.std.proofs.Common.{append_assoc, ◌++◌}
use Rattle.status_view.specs.ObjectsLayout.{marks_nodes}
use Rattle.status_view.proofs.LayoutSteps.{ended}
use Rattle.status_view.proofs.objects_layout.lay_out_marks.Goals as goal

pub returns : goal.returns
unfolding marks_nodes
returns c =
    ended c.put-2.result _ _ (c.args.layout.now ++ marks_nodes c.args.row.now) c.put-2.ensures
    (rw (
      c.in_ok-put_if-3.ensures,
      c.in_ok-put_if-2.ensures,
      c.in_ok-lay_out_reason.ensures,
      c.in_ok-lay_out_acknowledgement.ensures,
      c.in_ok-put_if.ensures,
      c.in_ok-put.ensures,
    ) (simp (append_assoc, c.from.ensures)))
