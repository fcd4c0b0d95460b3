use Rattle.std.proofs.Common.{◌+◌}
use Rattle.std.proofs.lemmas.List.{take_rest}
use Rattle.operator_restore.proofs.PrintedSteps.{no_page, last_page, only_page}
use Rattle.operator_restore.proofs.printed.log_part.Goals as goal

pub returns-in-Some : goal.returns-in-Some
returns-in-Some c =
    let found = c.in-Some.ensures in
    last_page c.args.printed.now c.in-Some.index _ found.1 found.0.after (take_rest c.args.printed.now (c.in-Some.index + 1))

pub returns-in-None : goal.returns-in-None
returns-in-None c = only_page c.args.printed.now c.first_page.result c.in-None.ensures c.first_page.ensures
