use Rattle.std.proofs.Common.{Some, List, ℕ, subst}
use Rattle.gate_model.specs.declared.submission.Body.TheVariants as body
use Rattle.status_reading.proofs.CutSteps.{never_holds}
use Rattle.log_reading.specs.inner.Gives.{Gives}
use Rattle.log_reading.proofs.BodySteps.{cut_host}
use Rattle.log_reading.proofs.bodies.named_result.Goals as goal

pub returns-in_default : goal.returns-in_default
returns-in_default c = λ name code output plain small is. absurd (never_holds 59 name _ c.args.rest.now is c.in_default.ensures)

pub returns : goal.returns
returns c =
    λ name code output plain small is.
    let both = cut_host c.args.rest.now c.in-Some.name.now c.in-Some.after.now _ name c.in-Some.ensures.0 c.in-Some.ensures.1 plain is in
    subst (λ (found : List ℕ). Gives c.object_result.result (body.Result c.args.host.now (Some found) code output)) both.0
    (c.object_result.ensures code output small both.1)
