use Rattle.std.proofs.Common.{append_assoc, ◌++◌}
use Rattle.status_view.specs.ListsLayout.{comment_nodes}
use Rattle.status_view.proofs.LayoutSteps.{ended}
use Rattle.status_view.proofs.lists_layout.lay_out_comment.Goals as goal

pub returns : goal.returns
unfolding comment_nodes
returns c =
    ended c.lay_out_time.result _ _ (c.args.layout.now ++ comment_nodes c.args.row.now) c.lay_out_time.ensures
    (rw (c.in_ok-put-2.ensures, c.in_ok-put_if.ensures, c.in_ok-put.ensures)
    (simp (append_assoc, c.source_word.ensures)))
