use Rattle.std.proofs.Common.{◌≡◌, ◌++◌, drop, map}
use Rattle.std.specs.List.{flat_map, enumerate_from}
use Rattle.status_view.specs.Layout.{each_indexed}
use Rattle.status_view.specs.ListsLayout.{entry_nodes}
use Rattle.status_view.specs.Shapes.{entry_shape_view}
use Rattle.status_view.proofs.lists_layout.lay_out_rows.Given as goal

abbrev pub invariant-loop-index : goal.invariant-loop-index
invariant-loop-index l =
    l.layout
    ++ flat_map (λ item. entry_nodes l.list item.0 item.1)
    (enumerate_from l.index (map entry_shape_view (drop l.index l.rows)))
    ≡ l.fn.layout ++ each_indexed (entry_nodes l.list) (map entry_shape_view l.rows)
