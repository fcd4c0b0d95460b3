use Rattle.std.proofs.Common.{◌++◌}
use Rattle.status_view.specs.ObjectsLayout.{reason_nodes}
use Rattle.status_view.proofs.objects_layout.lay_out_reason.Goals as goal

pub returns-in-Some : goal.returns-in-Some
unfolding reason_nodes
returns-in-Some c = rw c.in-Some.is c.put.ensures
