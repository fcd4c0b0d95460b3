use Rattle.desk_view.specs.Marks.{box_parts}
use Rattle.desk_view.proofs.marks.put_box.Goals as goal

pub returns : goal.returns
unfolding box_parts
returns c = rw (c.choice_name.ensures.word, c.slash_before.ensures) at c.put.ensures
