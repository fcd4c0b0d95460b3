use Rattle.std.proofs.Common.{append_assoc, ◌++◌}
use Rattle.status_view.specs.ChangesLayout.{feed_entry_nodes}
use Rattle.status_view.proofs.LayoutSteps.{ended}
use Rattle.status_view.proofs.changes.lay_out_feed_entry.Goals as goal

pub returns : goal.returns
unfolding feed_entry_nodes
returns c =
    ended c.put-2.result _ _ (c.args.layout.now ++ feed_entry_nodes c.args.index c.args.row.now) c.put-2.ensures
    (rw (
      c.in_ok-lay_out_instant.ensures,
      c.in_ok-put.ensures,
      c.in_ok-lay_out_feed_title.ensures,
      c.in_ok-lay_out_feed_id.ensures,
    ) (simp append_assoc))
