use Rattle.std.proofs.Common.{◌≡◌, ◌++◌, codes, drop}
use Rattle.std.specs.List.{flat_map}
use Rattle.status_export.specs.Gauges.{sample_text, gauge_text}
use Rattle.status_export.specs.Metrics.{age_samples, age_gauge}
use Rattle.status_export.proofs.metrics.push_age_gauge.Given as goal

abbrev pub invariant-loop-gateway : goal.invariant-loop-gateway
invariant-loop-gateway l =
    l.out.items ++ flat_map (sample_text (codes "nscagate_page_age_seconds")) (flat_map age_samples (drop l.gateway-index l.gateways))
    ≡ l.fn.out.items ++ gauge_text (age_gauge l.gateways)
