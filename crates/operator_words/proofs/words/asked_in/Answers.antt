use Rattle.std.proofs.Common.{ap, sym, ◌∙◌}
use Rattle.clap.specs.Words.{found_of, rows_of, subcommand_rows_of}
use Rattle.operator_words.specs.Words.{asked_with}
use Rattle.operator_words.proofs.WordSteps.{names_same, entered, none_met, asked_as}
use Rattle.operator_words.proofs.words.asked_in.Goals as goal

pub returns-in_default : goal.returns-in_default
returns-in_default c =
    sym (ap asked_with (none_met (subcommand_rows_of c.args.matches.now) (c.in_default.ensures.name ∙ names_same _ _ _)))

pub returns : goal.returns
returns c =
    let rows = rows_of (found_of c.in-Some.found.now) in
    asked_as (subcommand_rows_of c.args.matches.now) c.in-Some.name.now rows c.in_ok-options.options c.in_ok-task.task
    (entered (subcommand_rows_of c.args.matches.now) _ _ (c.in-Some.ensures.name ∙ names_same _ _ _) c.in-Some.ensures.rows)
    c.in_ok-options.ensures c.in_ok-task.ensures
