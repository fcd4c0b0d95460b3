use Rattle.std.proofs.Common.{codes}
use Rattle.std.specs.List.{flat_map}
use Rattle.std.proofs.lemmas.Grind.{flat_map-append}
use Rattle.status_export.specs.Gauges.{sample_text}
use Rattle.status_export.specs.Metrics.{alarm_samples}
use Rattle.status_export.proofs.WritingSteps.{begun_bytes, next_bytes}
use Rattle.status_export.proofs.metrics.push_alarm_gauge.Goals as goal

pub loop-gateway-init : goal.loop-gateway-init
loop-gateway-init c = begun_bytes _ _ _ _ c.in_ok-push_head.ensures

pub loop-gateway-preserved : goal.loop-gateway-preserved
loop-gateway-preserved c =
    let lines = sample_text (codes "nscagate_alarm") in
    next_bytes (λ gateways. flat_map lines (flat_map alarm_samples gateways)) _ _ c.args.gateways.now c.loop-gateway.gateway-index
    c.gateway-item.result _ _ c.loop-gateway-test.true c.gateway-item.is (flat_map-append lines (alarm_samples c.gateway-item.result) _)
    c.in_ok-push_alarm_samples.ensures c.loop-gateway.invariant
