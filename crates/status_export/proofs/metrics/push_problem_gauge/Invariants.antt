use Rattle.std.proofs.Common.{◌≡◌, ◌++◌, codes, drop}
use Rattle.std.specs.List.{flat_map}
use Rattle.status_export.specs.Gauges.{sample_text, gauge_text}
use Rattle.status_export.specs.Metrics.{problem_samples, problem_gauge}
use Rattle.status_export.proofs.metrics.push_problem_gauge.Given as goal

abbrev pub invariant-loop-object : goal.invariant-loop-object
invariant-loop-object l =
    l.out.items ++ flat_map (sample_text (codes "nscagate_problem")) (flat_map problem_samples (drop l.object-index l.objects))
    ≡ l.fn.out.items ++ gauge_text (problem_gauge l.objects)
