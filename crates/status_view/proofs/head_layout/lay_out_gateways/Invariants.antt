use Rattle.std.proofs.Common.{◌≡◌, ◌++◌, drop, map}
use Rattle.std.specs.List.{flat_map, enumerate_from}
use Rattle.status_view.specs.Layout.{each_indexed}
use Rattle.status_view.specs.HeadLayout.{gateway_nodes}
use Rattle.status_view.specs.Shapes.{gateway_shape_view}
use Rattle.status_view.proofs.head_layout.lay_out_gateways.Given as goal

abbrev pub invariant-loop-index : goal.invariant-loop-index
invariant-loop-index l =
    l.layout
    ++ flat_map (λ item. gateway_nodes item.0 item.1)
    (enumerate_from l.index (map gateway_shape_view (drop l.index l.gateways)))
    ≡ l.fn.layout ++ each_indexed gateway_nodes (map gateway_shape_view l.gateways)
