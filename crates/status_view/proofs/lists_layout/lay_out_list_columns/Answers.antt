use Rattle.status_view.specs.ListsLayout.{list_columns}
use Rattle.status_view.proofs.lists_layout.lay_out_list_columns.Goals as goal

pub returns-in-Comments : goal.returns-in-Comments
unfolding list_columns
returns-in-Comments c = rw c.in-Comments.is c.put.ensures

pub returns-in-Downtimes : goal.returns-in-Downtimes
unfolding list_columns
returns-in-Downtimes c = rw c.in-Downtimes.is c.put-in-Downtimes.ensures
