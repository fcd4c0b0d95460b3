use Rattle.std.specs.Fmt.{decimal}
use Rattle.log_reading.proofs.PageSteps.{first_parts, same_field, first_whole}
use Rattle.log_reading.proofs.page.first_line.Goals as goal

pub returns-in_err-field : goal.returns-in_err-field
returns-in_err-field c =
    rw c.from_residual-in_err-field.ensures
    (λ count rest fits is. c.in_err-field.ensures (decimal count) (first_parts c.args.text.now c.in_ok-line.line.now c.in_ok-line.rest.now c.in_ok-line.ensures.0 c.in_ok-line.ensures.1 count rest fits is).0)

pub returns-in_err-number : goal.returns-in_err-number
returns-in_err-number c =
    rw c.from_residual-in_err-number.ensures
    (λ count rest fits is. c.in_err-number.ensures count fits
    (same_field c.in_ok-line.line.now c.in_ok-field.field.now (decimal count) c.in_ok-field.ensures
    (first_parts c.args.text.now c.in_ok-line.line.now c.in_ok-line.rest.now c.in_ok-line.ensures.0 c.in_ok-line.ensures.1 count rest fits is).0))

pub returns : goal.returns
returns c =
    (first_whole c.args.text.now c.in_ok-line.line.now c.in_ok-line.rest.now c.in_ok-field.field.now c.in_ok-number.field-0 c.in_ok-line.ensures.0 c.in_ok-field.ensures c.in_ok-number.ensures.0, c.in_ok-number.ensures.1)
