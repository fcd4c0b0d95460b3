use Rattle.std.proofs.Common.{rules, ◌≡◌, Some, ap, ◌∙◌}
use mir.Syntax.{w16}
use mir.Val.{to_z, of_z}
use Rattle.log_reading.proofs.BodySteps.{uncut_code, no_code, copied_result, same_result}
use Rattle.log_reading.proofs.bodies.object_result.Goals as goal

pub returns-in_default : goal.returns-in_default
returns-in_default c = λ code output small is. absurd (uncut_code c.args.rest.now output code c.in_default.ensures is)

pub returns-in_default-read_code : goal.returns-in_default-read_code
returns-in_default-read_code c =
    λ code output small is.
    absurd (no_code c.args.rest.now c.in-Some.digits.now c.in-Some.output.now output code small c.in-Some.ensures.0 c.in-Some.ensures.1 is c.in_default-read_code.ensures)

pub returns : goal.returns
returns c =
    λ code output small is.
    let same : to_z w16 (of_z w16 c.in-Some-read_code.code) ≡ c.in-Some-read_code.code = search rules in
    rw same
    (ap Some
    (copied_result c.args.host.now c.in_ok-owner.owner c.in-Some.output.now c.in_ok-copied.copied _ c.in_ok-owner.named c.in-Some-read_code.code c.in_ok-owner.ensures.0
    c.in_ok-owner.ensures.1 c.in_ok-copied.ensures
    ∙ same_result c.args.host.now c.args.rest.now c.in-Some.digits.now c.in-Some.output.now output _ code c.in-Some-read_code.code small c.in-Some.ensures.0 c.in-Some.ensures.1 is
    c.in-Some-read_code.ensures))
