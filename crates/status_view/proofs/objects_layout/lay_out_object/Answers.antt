use Rattle.std.proofs.Common.{append_assoc, ◌++◌}
use Rattle.status_view.specs.ObjectsLayout.{object_nodes}
use Rattle.status_view.proofs.LayoutSteps.{ended}
use Rattle.status_view.proofs.objects_layout.lay_out_object.Goals as goal

pub returns : goal.returns
unfolding object_nodes
returns c =
    ended c.put-3.result _ _
    (c.args.layout.now ++ object_nodes c.args.several c.args.index c.args.row.now)
    c.put-3.ensures
    (rw (
      c.in_ok-put_if-2.ensures,
      c.in_ok-lay_out_output.ensures,
      c.in_ok-lay_out_age.ensures,
      c.in_ok-lay_out_since.ensures,
      c.in_ok-lay_out_marks.ensures,
      c.in_ok-lay_out_name.ensures,
      c.in_ok-put-2.ensures,
      c.in_ok-put_if.ensures,
      c.in_ok-put.ensures,
    ) (simp (append_assoc, c.choice_name.ensures.word, c.state_name.ensures)))
