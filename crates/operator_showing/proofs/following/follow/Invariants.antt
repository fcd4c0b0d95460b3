use Rattle.operator_showing.proofs.FollowSteps.{GoesOn}
use Rattle.operator_showing.proofs.following.follow.Given as goal

abbrev pub invariant-loop-turn : goal.invariant-loop-turn
invariant-loop-turn g l =
    let output = g.W.Sink.state in
    let done = g.G.Gateway.done in
    GoesOn l.json l.fn.first.items l.before.items (done l.fn.gateway) (done l.gateway) (output l.fn.output) (output l.output) l._turn
