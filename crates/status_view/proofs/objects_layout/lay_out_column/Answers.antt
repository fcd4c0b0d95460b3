use Rattle.std.proofs.Common.{◌++◌}
use Rattle.status_view.specs.ObjectsLayout.{column_nodes}
use Rattle.status_view.proofs.objects_layout.lay_out_column.Goals as goal

pub returns-in-None : goal.returns-in-None
unfolding column_nodes
returns-in-None c = rw c.in-None.is c.put.ensures
