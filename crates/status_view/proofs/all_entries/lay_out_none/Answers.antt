use Rattle.status_view.specs.EntriesPage.{none_nodes}
use Rattle.status_view.proofs.all_entries.lay_out_none.Goals as goal

pub returns-in-Comments : goal.returns-in-Comments
unfolding none_nodes
returns-in-Comments c = rw c.in-Comments.is c.put.ensures

pub returns-in-Downtimes : goal.returns-in-Downtimes
unfolding none_nodes
returns-in-Downtimes c = rw c.in-Downtimes.is c.put-in-Downtimes.ensures
