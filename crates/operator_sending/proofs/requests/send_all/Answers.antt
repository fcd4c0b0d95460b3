use Rattle.std.proofs.Common.{[], sym, append-nil, subst, arith}
use Rattle.status_reading.specs.Rows.{page_view}
use Rattle.operator_sending.specs.Reports.{sinks}
use Rattle.operator_sending.proofs.ReportSteps.{GoesOn, begun, goes_on, stops, ends}
use Rattle.operator_sending.proofs.requests.send_all.Goals as goal

pub returns-in-Some-clause-answered : goal.returns-in-Some-clause-answered
returns-in-Some-clause-answered g c =
    ([], sym (append-nil (g.G.Gateway.done c.args.gateway.now)), rw c.in-Some.is at c.in_ok-refused.ensures.found)

pub loop-command-init : goal.loop-command-init
loop-command-init g c =
    let output = g.W.Sink.state in
    let errors = g.E.Sink.state in
    let done = g.G.Gateway.done in
    let none = rw c.in_default.is at c.in_ok-refused.ensures.found in
    subst (GoesOn c.args.json (page_view c.args.before.now) c.args.commands.now 0 (done c.args.gateway.now) (done c.args.gateway.now)
    (sinks (output c.args.output.now) (errors c.args.errors.now))) (sym none.1)
    (begun c.args.json (page_view c.args.before.now) c.args.commands.now (done c.args.gateway.now)
    (sinks (output c.args.output.now) (errors c.args.errors.now)))

pub returns-then-status-ne0-clause-answered : goal.returns-then-status-ne0-clause-answered
returns-then-status-ne0-clause-answered g c =
    let output = g.W.Sink.state in
    let errors = g.E.Sink.state in
    let done = g.G.Gateway.done in
    let none = rw c.in_default.is at c.in_ok-refused.ensures.found in
    let one = c.in_ok-status.ensures.reported in
    let all = stops c.args.json (page_view c.args.before.now) c.args.commands.now c.loop-command.command-index (done c.args.gateway.now)
    (done c.loop-command.gateway) (done c.send_one.new.gateway) one.0
    (sinks (output c.args.output.now) (errors c.args.errors.now)) (sinks (output c.loop-command.output) (errors c.loop-command.errors))
    (sinks (output c.send_one.new.output) (errors c.send_one.new.errors)) c.command-item.result c.in_ok-status.status
    c.loop-command-test.true c.command-item.is c.loop-command.invariant one.1 one.2 c.if-status-ne0.true in
    (all.0, all.1, rw none.0 all.2)

pub loop-command-preserved : goal.loop-command-preserved
loop-command-preserved g c =
    let output = g.W.Sink.state in
    let errors = g.E.Sink.state in
    let done = g.G.Gateway.done in
    let one = c.in_ok-status.ensures.reported in
    goes_on c.args.json (page_view c.args.before.now) c.args.commands.now c.loop-command.command-index (done c.args.gateway.now)
    (done c.loop-command.gateway) (done c.send_one.new.gateway) one.0
    (sinks (output c.args.output.now) (errors c.args.errors.now)) (sinks (output c.loop-command.output) (errors c.loop-command.errors))
    (sinks (output c.send_one.new.output) (errors c.send_one.new.errors)) c.command-item.result c.in_ok-status.status
    c.loop-command-test.true c.command-item.is c.loop-command.invariant one.1 one.2 c.if-status-ne0.false

pub returns-clause-answered : goal.returns-clause-answered
returns-clause-answered g c =
    let output = g.W.Sink.state in
    let errors = g.E.Sink.state in
    let done = g.G.Gateway.done in
    let none = rw c.in_default.is at c.in_ok-refused.ensures.found in
    let all = ends c.args.json (page_view c.args.before.now) c.args.commands.now c.loop-command.command-index (done c.args.gateway.now)
    (done c.loop-command.gateway) (sinks (output c.args.output.now) (errors c.args.errors.now))
    (sinks (output c.loop-command.output) (errors c.loop-command.errors)) (omega arith) c.loop-command.invariant in
    (all.0, all.1, rw none.0 all.2)
