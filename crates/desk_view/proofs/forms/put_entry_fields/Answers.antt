use Rattle.desk_view.specs.Forms.{entry_fields}
use Rattle.desk_view.proofs.forms.put_entry_fields.Goals as goal

pub returns : goal.returns
unfolding entry_fields
returns c = rw (c.as_bytes.ensures.value, c.from.ensures) at c.put.ensures
