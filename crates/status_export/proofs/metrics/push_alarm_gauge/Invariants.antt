use Rattle.std.proofs.Common.{◌≡◌, ◌++◌, codes, drop}
use Rattle.std.specs.List.{flat_map}
use Rattle.status_export.specs.Gauges.{sample_text, gauge_text}
use Rattle.status_export.specs.Metrics.{alarm_samples, alarm_gauge}
use Rattle.status_export.proofs.metrics.push_alarm_gauge.Given as goal

abbrev pub invariant-loop-gateway : goal.invariant-loop-gateway
invariant-loop-gateway l =
    l.out.items ++ flat_map (sample_text (codes "nscagate_alarm")) (flat_map alarm_samples (drop l.gateway-index l.gateways))
    ≡ l.fn.out.items ++ gauge_text (alarm_gauge l.gateways)
