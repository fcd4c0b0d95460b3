use Rattle.std.proofs.Common.{◌∙◌, refl, sym, arith}
use Rattle.status_reading.specs.Rows.{page_view}
use Rattle.operator_ports.proofs.WatchingSteps.{begun, ended, is_seen, is_passed, runs_out}
use Rattle.operator_ports.proofs.watching.watch.Goals as goal

pub loop-init : goal.loop-init
loop-init g c = begun c.args.body.now (page_view c.args.before.now) (g.G.Gateway.done c.args.gateway.now)

pub returns-then-is_over : goal.returns-then-is_over
returns-then-is_over g c =
    let done = g.G.Gateway.done in
    ended c.args.body.now (page_view c.args.before.now) (done c.args.gateway.now) (done c.loop.gateway) (done c.next.new.self)
    c.in_ok-next.next c.loop.counter _ c.loop.invariant c.in_ok-next.ensures (c.if-is_over.ensures.0 refl)

pub returns-then-is_some : goal.returns-then-is_some
returns-then-is_some g c =
    let done = g.G.Gateway.done in
    is_seen c.args.body.now (page_view c.args.before.now) (done c.args.gateway.now) (done c.loop.gateway) (done c.next.new.self)
    c.in_ok-next.next c.loop.counter c.in_ok-seen.seen c.loop.invariant c.in_ok-next.ensures
    (sym c.is_some.ensures ∙ c.if-is_some.true) c.in_ok-seen.ensures

pub loop-preserved : goal.loop-preserved
loop-preserved g c =
    let done = g.G.Gateway.done in
    is_passed c.args.body.now (page_view c.args.before.now) (done c.args.gateway.now) (done c.loop.gateway) (done c.next.new.self)
    c.in_ok-next.next c.loop.counter c.in_ok-seen.seen c.loop.invariant c.in_ok-next.ensures
    (λ over. let e = c.if-is_over.ensures.1 over in cc) (sym c.is_some.ensures ∙ c.if-is_some.false) c.in_ok-seen.ensures

pub returns : goal.returns
returns g c =
    let done = g.G.Gateway.done in
    runs_out c.args.body.now (page_view c.args.before.now) (done c.args.gateway.now) (done c.loop.gateway) c.loop.counter c.loop.invariant (omega arith)
