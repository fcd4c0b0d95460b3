use Rattle.desk_view.specs.Page.{head_parts}
use Rattle.desk_view.proofs.page.put_head.Goals as goal

pub returns : goal.returns
unfolding head_parts
returns c = rw (c.as_bytes.ensures.value, c.again_part.ensures) at c.put.ensures
