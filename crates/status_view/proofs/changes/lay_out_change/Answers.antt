use Rattle.std.proofs.Common.{append_assoc, ◌++◌}
use Rattle.status_view.specs.ChangesLayout.{change_nodes}
use Rattle.status_view.proofs.LayoutSteps.{ended}
use Rattle.status_view.proofs.changes.lay_out_change.Goals as goal

pub returns : goal.returns
unfolding change_nodes
returns c =
    ended c.put-4.result _ _ (c.args.layout.now ++ change_nodes c.args.index c.args.row.now) c.put-4.ensures
    (rw (
      c.in_ok-put_if.ensures,
      c.in_ok-put-3.ensures,
      c.in_ok-lay_out_time.ensures,
      c.in_ok-put-2.ensures,
      c.in_ok-put.ensures,
    ) (simp (append_assoc, c.choice_name.ensures.word, c.from_name.ensures, c.state_name.ensures)))
