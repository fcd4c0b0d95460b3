use Rattle.std.proofs.Common.{append_assoc, ◌++◌}
use Rattle.status_view.specs.ChangesLayout.{feed_nodes}
use Rattle.status_view.proofs.LayoutSteps.{ended}
use Rattle.status_view.proofs.changes.lay_out_feed.Goals as goal

pub returns : goal.returns
unfolding feed_nodes
returns c =
    ended c.put-3.result _ _ (c.args.layout.now ++ feed_nodes c.args.clock c.args.rows.now) c.put-3.ensures
    (rw (
      c.in_ok-lay_out_feed_entries.ensures,
      c.in_ok-put-2.ensures,
      c.in_ok-lay_out_instant.ensures,
      c.in_ok-put.ensures,
    ) (simp (append_assoc, c.updated_at.ensures)))
