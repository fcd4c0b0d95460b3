use Rattle.desk_view.specs.Marks.{top_parts}
use Rattle.desk_view.proofs.marks.put_top.Goals as goal

pub returns : goal.returns
unfolding top_parts
returns c = rw (c.again_part.ensures, c.as_bytes.ensures.value) at c.put.ensures
