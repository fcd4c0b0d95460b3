use Rattle.std.proofs.Common.{ap, ◌∙◌}
use Rattle.status_export.specs.Metrics.{metrics_page}
use Rattle.status_serving.proofs.BodySteps.{if_ok}
use Rattle.status_serving.proofs.bodies.metrics_body.Goals as goal

pub returns : goal.returns
returns c =
    let objects = c.as_slice.ensures.value ∙ c.in_ok-objects.ensures.merged in
    if_ok c.metrics_text.result (λ body known. known ∙ ap (metrics_page c.args.gateways.now) objects) c.metrics_text.ensures.text
