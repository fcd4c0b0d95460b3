use Rattle.std.proofs.Common.{sym, ap, ◌∙◌}
use Rattle.status_reading.proofs.CutSteps.{tail}
use Rattle.log_reading.proofs.lines.stamp_of.Goals as goal

pub returns-in_err-opened : goal.returns-in_err-opened
returns-in_err-opened c = rw c.from_residual.ensures (λ stamp rest fits is. c.in_err-opened.ensures _ is)

pub returns-in_err-moment : goal.returns-in_err-moment
returns-in_err-moment c =
    rw c.from_residual-in_err-moment.ensures
    (λ stamp rest fits is. c.in_err-moment.ensures stamp.moment _ fits.moment (ap tail (sym c.in_ok-opened.ensures ∙ is)))

pub returns-in_err-owner : goal.returns-in_err-owner
returns-in_err-owner c =
    rw c.from_residual-in_err-owner.ensures
    (λ stamp rest fits is.
    let moment = c.in_ok-moment.ensures stamp.moment _ fits.moment (ap tail (sym c.in_ok-opened.ensures ∙ is)) in
    c.in_err-owner.ensures _ moment.1)

pub returns-in_err-client : goal.returns-in_err-client
returns-in_err-client c =
    rw c.from_residual-in_err-client.ensures
    (λ stamp rest fits is.
    let moment = c.in_ok-moment.ensures stamp.moment _ fits.moment (ap tail (sym c.in_ok-opened.ensures ∙ is)) in
    c.in_err-client.ensures stamp.client _ fits.client (ap tail (sym c.in_ok-owner.ensures ∙ moment.1)))

pub returns-in_err-number : goal.returns-in_err-number
returns-in_err-number c =
    rw c.from_residual-in_err-number.ensures
    (λ stamp rest fits is.
    let moment = c.in_ok-moment.ensures stamp.moment _ fits.moment (ap tail (sym c.in_ok-opened.ensures ∙ is)) in
    let client = c.in_ok-client.ensures stamp.client _ fits.client (ap tail (sym c.in_ok-owner.ensures ∙ moment.1)) in
    c.in_err-number.ensures stamp.number rest fits.number client.1)

pub returns : goal.returns
returns c =
    λ stamp rest fits is.
    let moment = c.in_ok-moment.ensures stamp.moment _ fits.moment (ap tail (sym c.in_ok-opened.ensures ∙ is)) in
    let client = c.in_ok-client.ensures stamp.client _ fits.client (ap tail (sym c.in_ok-owner.ensures ∙ moment.1)) in
    let number = c.in_ok-number.ensures stamp.number rest fits.number client.1 in
    ((λ i. record { moment = moment.0 i; client = client.0 i; number = number.0 i }), number.1)
