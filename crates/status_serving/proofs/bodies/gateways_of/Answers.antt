use Rattle.std.proofs.Common.{refl}
use Rattle.status_serving.proofs.BodySteps.{shown_more, all_shown}
use Rattle.status_serving.proofs.bodies.gateways_of.Goals as goal

pub loop-one-preserved : goal.loop-one-preserved
loop-one-preserved c =
    shown_more c.args.now c.args.seen.now c.loop-one.one-index c.one-item.result c.loop-one.gateways.items
    c.push.new.self.items _ c.loop-one-test.true c.one-item.is c.loop-one.invariant c.in_ok-push.ensures.items
    (record { name = refl; page = c.in_ok-page_of.ensures; old = c.in_ok-old_of.ensures; alarms = c.in_ok-alarms.ensures.kept; since = c.since_in.ensures })

pub returns : goal.returns
returns c =
    all_shown c.args.now c.args.seen.now c.loop-one.one-index c.loop-one.gateways.items c.loop-one-test.false c.loop-one.invariant
