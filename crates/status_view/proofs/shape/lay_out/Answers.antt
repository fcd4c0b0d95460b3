use Rattle.std.proofs.Common.{append_assoc}
use Rattle.status_view.specs.Page.{page_nodes}
use Rattle.status_view.proofs.shape.lay_out.Goals as goal

pub returns : goal.returns
unfolding page_nodes
returns c =
    rw (
      c.in_ok-lay_out_end.ensures,
      c.in_ok-lay_out_entries-2.ensures,
      c.in_ok-lay_out_entries.ensures,
      c.in_ok-lay_out_objects.ensures,
      c.in_ok-lay_out_head.ensures,
      c.new-layout.ensures,
    ) (simp (append_assoc, c.as_slice.ensures.value, c.as_slice-2.ensures.value))
