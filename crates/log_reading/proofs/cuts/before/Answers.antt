use Rattle.log_reading.proofs.LastCut.{ended, not_ended}
use Rattle.log_reading.proofs.cuts.before.Goals as goal

pub returns-in-Some : goal.returns-in-Some
returns-in-Some c =
    ended c.args.text.now c.in-Some.front.now c.args.back.now c.in-Some.ensures.cases.0 c.in-Some.ensures.cases.1

pub returns-in-None : goal.returns-in-None
returns-in-None c = λ front is. not_ended c.args.text.now front c.args.back.now c.in-None.ensures.cases is
