use Rattle.std.proofs.Common.{◌≡◌, ◌++◌, drop, map}
use Rattle.status_view.specs.Shapes.{gateway_shape_view, gateway_shape}
use Rattle.status_view.proofs.html.gateway_shapes.Given as goal

abbrev pub invariant-loop-gateway : goal.invariant-loop-gateway
invariant-loop-gateway l =
    map gateway_shape_view l.shapes.items ++ map gateway_shape (drop l.gateway-index l.gateways)
    ≡ map gateway_shape l.gateways
