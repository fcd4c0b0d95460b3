use Rattle.std.proofs.Common.{refl}
use Rattle.log_reading.proofs.LastCut.{begun, not_begun}
use Rattle.operator_restore.proofs.PrintedSteps.{first_word}
use Rattle.operator_restore.proofs.printed.first_page.Goals as goal

pub returns-in-Some : goal.returns-in-Some
returns-in-Some c =
    let found = c.in-Some.ensures.cases in
    (refl, (_, begun c.args.text.now first_word _ found.0 found.1))

pub returns-in-None : goal.returns-in-None
returns-in-None c = λ page. not_begun c.args.text.now first_word page.0 c.in-None.ensures.cases page.1
