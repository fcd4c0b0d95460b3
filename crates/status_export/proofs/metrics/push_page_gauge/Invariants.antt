use Rattle.std.proofs.Common.{◌≡◌, ◌++◌, drop}
use Rattle.std.specs.List.{flat_map}
use Rattle.status_export.specs.Gauges.{sample_text, gauge_text}
use Rattle.status_export.specs.Metrics.{page_samples, page_gauge}
use Rattle.status_export.specs.inner.Labels.{page_number}
use Rattle.status_export.proofs.metrics.push_page_gauge.Given as goal

abbrev pub invariant-loop-gateway : goal.invariant-loop-gateway
invariant-loop-gateway l =
    l.out.items ++ flat_map (sample_text l.name) (flat_map (page_samples (page_number l.number)) (drop l.gateway-index l.gateways))
    ≡ l.fn.out.items ++ gauge_text (page_gauge l.name l.help (page_number l.number) l.gateways)
