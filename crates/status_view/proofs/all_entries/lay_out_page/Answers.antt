use Rattle.std.proofs.Common.{append_assoc, ◌++◌}
use Rattle.status_view.specs.Shapes.{shape_view}
use Rattle.status_view.specs.EntriesPage.{entries_page_nodes}
use Rattle.status_view.proofs.LayoutSteps.{ended}
use Rattle.status_view.proofs.all_entries.lay_out_page.Goals as goal

pub returns : goal.returns
unfolding entries_page_nodes
returns c =
    ended c.lay_out_end.result _ _
    (c.args.layout.now ++ entries_page_nodes c.args.list (shape_view c.args.shape.now))
    c.lay_out_end.ensures
    (rw (
      c.in_ok-lay_out_all.ensures,
      c.in_ok-lay_out_alarms.ensures,
      c.in_ok-lay_out_title.ensures,
      c.in_ok-lay_out_document.ensures,
    ) (simp (append_assoc, c.as_slice-gateways.ensures.value)))
