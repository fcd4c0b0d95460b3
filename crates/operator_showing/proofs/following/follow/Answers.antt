use Rattle.std.proofs.Common.{◌-◌, ◌^◌, ◌∙◌, refl, arith}
use Rattle.operator_ports.specs.declared.next.Next.TheVariants.{Page}
use Rattle.operator_showing.proofs.FollowSteps.{begun, one_more, ended}
use Rattle.operator_showing.proofs.following.follow.Goals as goal

pub loop-turn-init : goal.loop-turn-init
loop-turn-init g c =
    begun c.args.json c.args.first.items (g.G.Gateway.done c.args.gateway.now) (g.W.Sink.state c.args.output.now)

pub returns-in-Err-clause-followed : goal.returns-in-Err-clause-followed
returns-in-Err-clause-followed g c =
    let output = g.W.Sink.state in
    let done = g.G.Gateway.done in
    λ fault same.
    let all = ended c.args.json c.args.first.items c.loop-turn.before.items (done c.args.gateway.now) (done c.loop-turn.gateway)
    (output c.args.output.now) (output c.loop-turn.output) c.loop-turn._turn c.loop-turn._turn c.loop-turn.invariant refl in
    (c.loop-turn._turn, all.0, c.in-Err.ensures ∙ all.1, all.2)

pub returns-clause-endless : goal.returns-clause-endless
returns-clause-endless g c =
    let output = g.W.Sink.state in
    let done = g.G.Gateway.done in
    let all = ended c.args.json c.args.first.items c.loop-turn.before.items (done c.args.gateway.now) (done c.loop-turn.gateway)
    (output c.args.output.now) (output c.loop-turn.output) c.loop-turn._turn (2 ^ 64 - 1) c.loop-turn.invariant (omega arith) in
    (refl, all.0, all.1, all.2)

pub loop-turn-preserved : goal.loop-turn-preserved
loop-turn-preserved g c =
    let output = g.W.Sink.state in
    let done = g.G.Gateway.done in
    one_more c.args.json c.args.first.items c.loop-turn.before.items c.in-Ok.text.items (done c.args.gateway.now) (done c.loop-turn.gateway)
    (done c.page.new.self) (Page c.in-Ok.text) (output c.args.output.now) (output c.loop-turn.output)
    (output c.print_changes.new.output) c.loop-turn._turn refl c.in-Ok.ensures
    (rw (c.as_slice-in-loop-turn.ensures.value, c.as_slice-in-loop-turn-2.ensures.value) at c.in_ok-print_changes.ensures.printed)
    c.loop-turn.invariant
