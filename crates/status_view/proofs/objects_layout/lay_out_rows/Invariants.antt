use Rattle.std.proofs.Common.{◌≡◌, ◌++◌, drop}
use Rattle.std.specs.List.{flat_map, enumerate_from}
use Rattle.status_view.specs.Layout.{each_indexed}
use Rattle.status_view.specs.ObjectsLayout.{object_nodes}
use Rattle.status_view.proofs.objects_layout.lay_out_rows.Given as goal

abbrev pub invariant-loop-index : goal.invariant-loop-index
invariant-loop-index l =
    l.layout
    ++ flat_map (λ item. object_nodes l.several item.0 item.1)
    (enumerate_from l.index (drop l.index l.rows))
    ≡ l.fn.layout ++ each_indexed (object_nodes l.several) l.rows
