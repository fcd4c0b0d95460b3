use Rattle.std.proofs.Common.{◌∙◌, ap, ◌++◌}
use Rattle.std.specs.List.{flat_map}
use Rattle.status_export.specs.Gauges.{gauge_text}
use Rattle.status_export.specs.Metrics.{gateway_gauges, object_gauges, problem_gauge, stale_gauge}
use Rattle.status_export.proofs.WritingSteps.{more_bytes}
use Rattle.status_export.proofs.metrics.metrics_text.Goals as goal

pub returns-clause-text : goal.returns-clause-text
returns-clause-text c =
    let gateways = c.args.gateways.now in
    let objects = c.args.objects.now in
    let both = more_bytes _ _ _ _ _ c.in_ok-push_gateway_gauges.ensures c.in_ok-push_object_gauges.ensures in
    let all = more_bytes _ _ _ _ _ both c.in_ok-push_problem_gauge.ensures in
    let whole = more_bytes _ _ _ _ _ all c.in_ok-push_stale_gauge.ensures in
    whole.added
    ∙ ap (λ t. t ++ (flat_map gauge_text (gateway_gauges gateways) ++ flat_map gauge_text (object_gauges c.count.result)
    ++ gauge_text (problem_gauge objects) ++ gauge_text (stale_gauge objects))) c.new-out.ensures.items
    ∙ ap (λ counts. flat_map gauge_text (gateway_gauges gateways) ++ flat_map gauge_text (object_gauges counts)
    ++ gauge_text (problem_gauge objects) ++ gauge_text (stale_gauge objects)) c.count.ensures
