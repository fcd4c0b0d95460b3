use Rattle.desk_view.specs.Marks.{form_parts}
use Rattle.desk_view.proofs.marks.put_form.Goals as goal

pub returns : goal.returns
unfolding form_parts
returns c = rw (c.as_bytes.ensures.value) at c.put.ensures
