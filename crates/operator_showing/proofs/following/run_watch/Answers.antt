use Rattle.std.proofs.Common.{refl}
use Rattle.operator_ports.specs.declared.next.Next.TheVariants.{Page}
use Rattle.operator_showing.proofs.FollowSteps.{nothing, watched}
use Rattle.operator_showing.proofs.following.run_watch.Goals as goal

pub returns-in_err-interval-clause-watched : goal.returns-in_err-interval-clause-watched
returns-in_err-interval-clause-watched g c =
    λ fault same. nothing c.args.json (g.G.Gateway.done c.args.gateway.now) _ (g.W.Sink.state c.args.output.now) refl

pub returns-in-Err-clause-watched : goal.returns-in-Err-clause-watched
returns-in-Err-clause-watched g c =
    λ fault same. nothing c.args.json (g.G.Gateway.done c.args.gateway.now) _ (g.W.Sink.state c.args.output.now) c.in-Err.ensures

pub returns-clause-watched : goal.returns-clause-watched
returns-clause-watched g c =
    let done = g.G.Gateway.done in
    λ fault same.
    let found = c.follow.ensures.followed fault same in
    watched c.args.json (Page c.in-Ok.text) c.in-Ok.text.items (done c.args.gateway.now) (done c.page.new.self) (done c.follow.new.gateway)
    (g.W.Sink.state c.args.output.now) (g.W.Sink.state c.follow.new.output) found.0 refl c.in-Ok.ensures (found.1, found.2, found.3)
