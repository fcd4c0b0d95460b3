use Rattle.std.proofs.Common.{append_assoc, ◌++◌}
use Rattle.status_view.specs.Times.{date_nodes}
use Rattle.status_view.proofs.LayoutSteps.{ended}
use Rattle.status_view.proofs.times.lay_out_date.Goals as goal

pub returns : goal.returns
unfolding date_nodes
returns c =
    ended c.lay_out_two-2.result _ _ (c.args.layout.now ++ date_nodes c.args.day) c.lay_out_two-2.ensures
    (rw (
      c.in_ok-put-2.ensures,
      c.in_ok-lay_out_two.ensures,
      c.in_ok-put.ensures,
    ) (simp (
      append_assoc,
      c.from.ensures,
      c.date_of-date.ensures.year,
      c.date_of-date.ensures.month,
      c.date_of-date.ensures.day,
    )))
