use Rattle.std.proofs.Common.{append_assoc, ◌++◌}
use Rattle.status_view.specs.ChangesLayout.{feed_title_nodes}
use Rattle.status_view.proofs.LayoutSteps.{ended}
use Rattle.status_view.proofs.changes.lay_out_feed_title.Goals as goal

pub returns : goal.returns
unfolding feed_title_nodes
returns c =
    ended c.put-2.result _ _ (c.args.layout.now ++ feed_title_nodes c.args.index c.args.row.now) c.put-2.ensures
    (rw (
      c.in_ok-put_if.ensures,
      c.in_ok-put.ensures,
    ) (simp (append_assoc, c.from_name.ensures, c.state_name.ensures)))
