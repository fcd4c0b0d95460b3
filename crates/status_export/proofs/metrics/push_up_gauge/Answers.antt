use Rattle.std.proofs.Common.{map, codes}
use Rattle.std.specs.List.{flat_map}
use Rattle.std.proofs.lemmas.List.Concat.{flat_map-cons}
use Rattle.status_export.specs.Gauges.{sample_text}
use Rattle.status_export.specs.Metrics.{up_sample}
use Rattle.status_export.proofs.WritingSteps.{begun_bytes, next_bytes}
use Rattle.status_export.proofs.metrics.push_up_gauge.Goals as goal

pub loop-gateway-init : goal.loop-gateway-init
loop-gateway-init c = begun_bytes _ _ _ _ c.in_ok-push_head.ensures

pub loop-gateway-preserved : goal.loop-gateway-preserved
loop-gateway-preserved c =
    let written = rw (c.from.ensures, c.is_up.ensures) at c.in_ok-push_gateway_sample.ensures in
    next_bytes (λ gateways. flat_map (sample_text (codes "nscagate_up")) (map up_sample gateways)) _ _ c.args.gateways.now
    c.loop-gateway.gateway-index c.gateway-item.result _ _ c.loop-gateway-test.true c.gateway-item.is
    (flat_map-cons (sample_text (codes "nscagate_up")) (up_sample c.gateway-item.result) _) written c.loop-gateway.invariant
