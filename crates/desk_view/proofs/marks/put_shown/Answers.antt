use Rattle.desk_view.specs.Marks.{shown_parts}
use Rattle.desk_view.proofs.marks.put_shown.Goals as goal

pub returns : goal.returns
unfolding shown_parts
returns c =
    rw (
      c.state_name.ensures,
      c.stale_mark.ensures,
      c.acknowledgement_mark.ensures,
      c.downtime_mark.ensures,
      c.words_of.ensures,
      c.performance_of.ensures,
    ) at c.put.ensures
