use Rattle.log_reading.proofs.LastCut.{begun, not_begun}
use Rattle.log_reading.proofs.cuts.after.Goals as goal

pub returns-in-Some : goal.returns-in-Some
returns-in-Some c =
    begun c.args.text.now c.args.front.now c.in-Some.rest.now c.in-Some.ensures.cases.0 c.in-Some.ensures.cases.1

pub returns-in-None : goal.returns-in-None
returns-in-None c = λ rest is. not_begun c.args.text.now c.args.front.now rest c.in-None.ensures.cases is
