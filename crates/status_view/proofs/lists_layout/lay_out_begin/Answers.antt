use Rattle.status_view.specs.ListsLayout.{began_nodes}
use Rattle.status_view.proofs.lists_layout.lay_out_begin.Goals as goal

pub returns-in-None : goal.returns-in-None
unfolding began_nodes
returns-in-None c = rw c.in-None.is c.put.ensures
