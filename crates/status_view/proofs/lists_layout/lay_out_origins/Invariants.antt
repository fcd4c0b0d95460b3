use Rattle.std.proofs.Common.{◌≡◌, ◌++◌, drop}
use Rattle.std.specs.List.{flat_map, enumerate_from}
use Rattle.status_view.specs.Layout.{each_indexed}
use Rattle.status_view.specs.ListsLayout.{origin_nodes}
use Rattle.status_view.proofs.lists_layout.lay_out_origins.Given as goal

abbrev pub invariant-loop-gateway : goal.invariant-loop-gateway
invariant-loop-gateway l =
    l.layout
    ++ flat_map (λ item. origin_nodes l.list l.index item.0 item.1)
    (enumerate_from l.gateway (drop l.gateway l.ids))
    ≡ l.fn.layout ++ each_indexed (origin_nodes l.list l.index) l.ids
