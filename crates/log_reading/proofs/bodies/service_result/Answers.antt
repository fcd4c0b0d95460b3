use Rattle.std.proofs.Common.{Some, List, ℕ, subst}
use Rattle.gate_model.specs.declared.submission.Body.TheVariants as body
use Rattle.status_reading.proofs.CutSteps.{never_holds}
use Rattle.log_reading.specs.inner.Gives.{Gives}
use Rattle.log_reading.proofs.BodySteps.{cut_host}
use Rattle.log_reading.proofs.bodies.service_result.Goals as goal

pub returns-in_default : goal.returns-in_default
returns-in_default c = λ host name code output plain named small is. absurd (never_holds 59 host _ c.args.rest.now is c.in_default.ensures)

pub returns : goal.returns
returns c =
    λ host name code output plain named small is.
    let both = cut_host c.args.rest.now c.in-Some.host.now c.in-Some.after.now _ host c.in-Some.ensures.0 c.in-Some.ensures.1 plain is in
    subst (λ (found : List ℕ). Gives c.named_result.result (body.Result found (Some name) code output)) both.0
    (c.named_result.ensures name code output named small both.1)
