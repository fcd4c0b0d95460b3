use Rattle.std.proofs.Common.{◌≡◌, ◌++◌, drop, map}
use Rattle.std.specs.List.{flat_map, enumerate_from}
use Rattle.status_view.specs.Layout.{each_indexed}
use Rattle.status_view.specs.HeadLayout.{alarms_of}
use Rattle.status_view.specs.Shapes.{gateway_shape_view}
use Rattle.status_view.proofs.head_layout.lay_out_alarms.Given as goal

abbrev pub invariant-loop-index : goal.invariant-loop-index
invariant-loop-index l =
    l.layout
    ++ flat_map (λ item. alarms_of item.0 item.1)
    (enumerate_from l.index (map gateway_shape_view (drop l.index l.gateways)))
    ≡ l.fn.layout ++ each_indexed alarms_of (map gateway_shape_view l.gateways)
