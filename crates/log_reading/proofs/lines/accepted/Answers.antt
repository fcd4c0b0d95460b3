use Rattle.std.proofs.Common.{Some, ap, sym, ◌∙◌, arith}
use Rattle.log_reading.proofs.LineSteps.{none_some, same_accepted}
use Rattle.log_reading.proofs.lines.accepted.Goals as goal

pub returns-in-Some : goal.returns-in-Some
returns-in-Some c =
    λ applied readable is same.
    ap Some (same_accepted c.args.stamp c.from.result c.in-Some.body applied (omega arith) same (sym c.in-Some.is ∙ c.in_ok-found.ensures applied.item.body readable is))

pub returns-in-None : goal.returns-in-None
returns-in-None c =
    λ applied readable is same. absurd (none_some applied.item.body _ c.in-None.is (c.in_ok-found.ensures applied.item.body readable is))
