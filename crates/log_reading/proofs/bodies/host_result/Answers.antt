use Rattle.std.proofs.Common.{None, List, ℕ, subst}
use Rattle.gate_model.specs.declared.submission.Body.TheVariants as body
use Rattle.status_reading.proofs.CutSteps.{never_holds}
use Rattle.log_reading.specs.inner.Gives.{Gives}
use Rattle.log_reading.proofs.BodySteps.{cut_host}
use Rattle.log_reading.proofs.bodies.host_result.Goals as goal

pub returns-in_default : goal.returns-in_default
returns-in_default c = λ host code output plain small is. absurd (never_holds 59 host _ c.args.rest.now is c.in_default.ensures)

pub returns : goal.returns
returns c =
    λ host code output plain small is.
    let both = cut_host c.args.rest.now c.in-Some.host.now c.in-Some.after.now _ host c.in-Some.ensures.0 c.in-Some.ensures.1 plain is in
    subst (λ (name : List ℕ). Gives c.object_result.result (body.Result name None code output)) both.0 (c.object_result.ensures code output small both.1)
