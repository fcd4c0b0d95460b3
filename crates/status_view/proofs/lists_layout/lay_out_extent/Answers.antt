use Rattle.std.proofs.Common.{◌++◌}
use Rattle.status_view.specs.ListsLayout.{extent_nodes}
use Rattle.status_view.proofs.lists_layout.lay_out_extent.Goals as goal

pub returns-in-None : goal.returns-in-None
unfolding extent_nodes
returns-in-None c = rw c.in-None.is c.put.ensures

pub returns-in-Some : goal.returns-in-Some
unfolding extent_nodes
returns-in-Some c = rw c.in-Some.is c.put-in-Some.ensures
