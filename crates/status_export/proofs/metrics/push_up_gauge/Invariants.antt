use Rattle.std.proofs.Common.{◌≡◌, ◌++◌, drop, map, codes}
use Rattle.std.specs.List.{flat_map}
use Rattle.status_export.specs.Gauges.{sample_text, gauge_text}
use Rattle.status_export.specs.Metrics.{up_sample, up_gauge}
use Rattle.status_export.proofs.metrics.push_up_gauge.Given as goal

abbrev pub invariant-loop-gateway : goal.invariant-loop-gateway
invariant-loop-gateway l =
    l.out.items ++ flat_map (sample_text (codes "nscagate_up")) (map up_sample (drop l.gateway-index l.gateways))
    ≡ l.fn.out.items ++ gauge_text (up_gauge l.gateways)
