use Rattle.std.proofs.Common.{◌++◌, sym, ◌∙◌}
use Rattle.std.specs.Prelude.{codes}
use Rattle.std.proofs.lemmas.List.{append_cancel_right}
use Rattle.gate_lines.specs.LogPage.{outcome_name}
use Rattle.status_reading.proofs.CutSteps.{never_holds}
use Rattle.log_reading.proofs.LineSteps.{same_ending, none_is_some, same_some}
use Rattle.log_reading.proofs.lines.ending.Goals as goal

pub returns-in_err-front : goal.returns-in_err-front
returns-in_err-front c =
    rw c.from_residual.ensures
    (λ command outcome is. never_holds 32 (command ++ codes " ->") (outcome_name outcome) c.args.text.now is c.in_err-front.ensures)

pub returns-in_err-command : goal.returns-in_err-command
returns-in_err-command c =
    rw c.from_residual-in_err-command.ensures
    (λ command outcome is.
    let both = same_ending c.args.text.now c.in_ok-front.front.now c.in_ok-front.word.now command outcome c.in_ok-front.ensures.0 c.in_ok-front.ensures.1 is in
    c.in_err-command.ensures command both.0)

pub returns-in_err-outcome : goal.returns-in_err-outcome
returns-in_err-outcome c =
    rw c.from_residual-in_err-outcome.ensures
    (λ command outcome is.
    let both = same_ending c.args.text.now c.in_ok-front.front.now c.in_ok-front.word.now command outcome c.in_ok-front.ensures.0 c.in_ok-front.ensures.1 is in
    none_is_some outcome (c.in_err-outcome.ensures outcome both.1))

pub returns : goal.returns
returns c =
    λ command outcome is.
    let both = same_ending c.args.text.now c.in_ok-front.front.now c.in_ok-front.word.now command outcome c.in_ok-front.ensures.0 c.in_ok-front.ensures.1 is in (
      append_cancel_right c.in_ok-command.command.now command (codes " ->") (sym c.in_ok-command.ensures ∙ both.0),
      same_some c.in_ok-outcome.outcome outcome (c.in_ok-outcome.ensures outcome both.1),
    )
