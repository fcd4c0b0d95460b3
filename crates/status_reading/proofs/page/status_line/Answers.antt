use Rattle.std.specs.Fmt.{decimal}
use Rattle.status_reading.proofs.FaultSteps.{status_parts, same_moment_text, status_whole}
use Rattle.status_reading.proofs.page.status_line.Goals as goal

pub returns-in_err-field : goal.returns-in_err-field
returns-in_err-field c =
    rw c.from_residual-in_err-field.ensures
    (λ moment rest fits is. c.in_err-field.ensures (decimal moment) (status_parts c.args.text.now c.in_ok-line.line.now c.in_ok-line.rest.now c.in_ok-line.ensures.parts.0 c.in_ok-line.ensures.parts.1 moment rest fits is))

pub returns-in_err-number : goal.returns-in_err-number
returns-in_err-number c =
    rw c.from_residual-in_err-number.ensures
    (λ moment rest fits is. c.in_err-number.ensures moment fits
    (same_moment_text c.in_ok-line.line.now c.in_ok-field.field.now (decimal moment) c.in_ok-field.ensures
    (status_parts c.args.text.now c.in_ok-line.line.now c.in_ok-line.rest.now c.in_ok-line.ensures.parts.0 c.in_ok-line.ensures.parts.1 moment rest fits is)))

pub returns : goal.returns
returns c =
    (status_whole c.args.text.now c.in_ok-line.line.now c.in_ok-line.rest.now c.in_ok-field.field.now c.in_ok-number.field-0 c.in_ok-line.ensures.parts.0 c.in_ok-field.ensures c.in_ok-number.ensures.0, c.in_ok-number.ensures.1)
