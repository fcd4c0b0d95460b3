use Rattle.status_view.proofs.all_entries.entries_page.Goals as goal

pub returns : goal.returns
returns c = simp (c.in_ok-lay_out_page.ensures, c.new-layout.ensures, c.in_ok-shape.ensures) at c.fill.ensures
