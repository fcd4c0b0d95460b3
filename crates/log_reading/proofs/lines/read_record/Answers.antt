use Rattle.std.proofs.Common.{sym, ap, subst, ◌∙◌}
use Rattle.log_reading.specs.inner.Gives.{Gives}
use Rattle.log_reading.specs.inner.Lines.{view_of}
use Rattle.log_reading.specs.Log.{logged_line}
use Rattle.log_reading.proofs.LineSteps.{content_is, stamp_fits, none_some, some_again}
use Rattle.log_reading.proofs.lines.read_record.Goals as goal

pub returns-in_default-clause-read : goal.returns-in_default-clause-read
returns-in_default-clause-read c =
    λ one readable is. absurd (c.in_default.ensures (view_of one) (stamp_fits one readable) (content_is c.args.text.now one is))

pub returns-in-None-clause-read : goal.returns-in-None-clause-read
returns-in-None-clause-read c =
    λ one readable is.
    let view = c.in-Some.ensures (view_of one) (stamp_fits one readable) (content_is c.args.text.now one is) in
    absurd (none_some one _ c.in-None.is (c.in_ok-found.ensures one readable view))

pub returns-in-Some-found-clause-read : goal.returns-in-Some-found-clause-read
returns-in-Some-found-clause-read c =
    λ one readable is.
    let view = c.in-Some.ensures (view_of one) (stamp_fits one readable) (content_is c.args.text.now one is) in
    let same = some_again _ c.in-Some-found.one one c.in-Some-found.is (c.in_ok-found.ensures one readable view) in
    subst (Gives c.checked.result) same (c.checked.ensures.read (is ∙ ap logged_line (sym same)))
