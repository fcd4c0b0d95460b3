use Rattle.std.proofs.Common.{◌≡◌, ◌++◌, sym, ◌∙◌}
use Rattle.status_view.specs.ObjectsLayout.{column_nodes}
use Rattle.status_view.proofs.objects_layout.lay_out_own_column.Goals as goal

pub returns-then-same_sort : goal.returns-then-same_sort
unfolding column_nodes
returns-then-same_sort c =
    rw (sym c.same_sort.ensures ∙ c.if-same_sort.true) (rw c.direction.ensures at c.put.ensures)

pub returns-else-same_sort : goal.returns-else-same_sort
unfolding column_nodes
returns-else-same_sort c = rw (sym c.same_sort.ensures ∙ c.if-same_sort.false) c.put-else-same_sort.ensures
