use Rattle.std.proofs.Common.{◌≡◌, ◌++◌, codes, drop}
use Rattle.std.specs.List.{flat_map}
use Rattle.status_export.specs.Gauges.{sample_text, gauge_text}
use Rattle.status_export.specs.Metrics.{stale_samples, stale_gauge}
use Rattle.status_export.proofs.metrics.push_stale_gauge.Given as goal

abbrev pub invariant-loop-object : goal.invariant-loop-object
invariant-loop-object l =
    l.out.items ++ flat_map (sample_text (codes "nscagate_stale")) (flat_map stale_samples (drop l.object-index l.objects))
    ≡ l.fn.out.items ++ gauge_text (stale_gauge l.objects)
