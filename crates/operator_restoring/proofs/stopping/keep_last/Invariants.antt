use Rattle.operator_restoring.specs.inner.Kept.{IsKeptAs}
use Rattle.operator_restoring.proofs.stopping.keep_last.Given as goal

abbrev pub invariant-loop-turn : goal.invariant-loop-turn
invariant-loop-turn g l =
    let gateway = g.S.Stopped in
    IsKeptAs gateway.shows gateway.has_page gateway.prints gateway.has_log l.kept
