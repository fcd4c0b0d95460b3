use Rattle.std.proofs.Common.{◌≡◌, Some, ap, sym, ◌∙◌, arith}
use Rattle.status_reading.specs.Plain.{plain_bytes}
use Rattle.log_reading.specs.inner.Lines.{line_view}
use Rattle.log_reading.proofs.LineSteps.{same_refused, accepted_given}
use Rattle.log_reading.proofs.lines.logged_by.Goals as goal

pub returns-then-is_accepted : goal.returns-then-is_accepted
returns-then-is_accepted c =
    λ one readable same.
    let undone : c.deref.result.now ≡ plain_bytes c.args.line.command.now = cc c.in_ok-text.ensures.undone in
    accepted_given c.accepted.result (line_view c.args.line) c.deref.result.now one readable same (sym c.is_accepted.ensures ∙ c.if-is_accepted.true) undone
    c.in_ok-text.ensures.inverse c.accepted.ensures

pub returns : goal.returns
returns c =
    λ one readable same.
    let undone : c.new.result ≡ plain_bytes c.args.line.command.now = cc c.in_ok-text.ensures.undone in
    ap Some
    (same_refused (line_view c.args.line) c.from.result c.new.result one same (omega arith) (sym c.is_accepted.ensures ∙ c.if-is_accepted.false) undone
    c.in_ok-text.ensures.inverse)
