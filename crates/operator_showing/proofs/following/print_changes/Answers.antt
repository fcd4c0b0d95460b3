use Rattle.operator_showing.proofs.following.print_changes.Goals as goal

pub returns-clause-printed : goal.returns-clause-printed
returns-clause-printed g c = record {
  page = c.in_ok-before.before;
  is_page = c.in_ok-before.ensures;
  next = c.in_ok-after.after;
  is_next = c.in_ok-after.ensures;
  printed = rw (c.as_slice-2.ensures.value, c.in_ok-lines.ensures, c.as_slice.ensures.value, c.in_ok-changes.ensures) at c.in_ok-print_some.ensures.printed;
}
