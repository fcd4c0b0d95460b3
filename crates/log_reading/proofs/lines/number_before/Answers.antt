use Rattle.std.proofs.Common.{sym, ◌∙◌}
use Rattle.std.specs.Fmt.{decimal}
use Rattle.status_reading.proofs.CutSteps.{never_holds}
use Rattle.status_reading.proofs.SameRows.{same_number}
use Rattle.log_reading.proofs.LineSteps.{cut_number}
use Rattle.log_reading.proofs.lines.number_before.Goals as goal

pub returns-in_err-digits : goal.returns-in_err-digits
returns-in_err-digits c =
    rw c.from_residual.ensures (λ number rest fits is. never_holds c.args.mark (decimal number) rest c.args.text.now is c.in_err-digits.ensures)

pub returns-in_err-found : goal.returns-in_err-found
returns-in_err-found c =
    rw c.from_residual-in_err-found.ensures
    (λ number rest fits is.
    let both = cut_number c.args.mark number c.args.text.now c.in_ok-digits.digits.now c.in_ok-digits.rest.now rest c.requires fits c.in_ok-digits.ensures.0 c.in_ok-digits.ensures.1 is in
    c.in_err-found.ensures number fits both.0)

pub returns : goal.returns
returns c =
    λ number rest fits is.
    let both = cut_number c.args.mark number c.args.text.now c.in_ok-digits.digits.now c.in_ok-digits.rest.now rest c.requires fits c.in_ok-digits.ensures.0 c.in_ok-digits.ensures.1 is in
    (same_number c.in_ok-found.found number c.in_ok-found.ensures.1 fits (sym c.in_ok-found.ensures.0 ∙ both.0), both.1)
