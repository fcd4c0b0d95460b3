use Rattle.status_view.proofs.one_object.view_page.Goals as goal

pub returns : goal.returns
returns c =
    simp (
      c.in_ok-lay_out_page.ensures,
      c.new-layout.ensures,
      c.as_slice.ensures.value,
      c.in_ok-changes.ensures,
      c.in_ok-shape.ensures,
    ) at c.fill.ensures
