use Rattle.status_reading.specs.Rows.{page_view}
use Rattle.operator_sending.specs.Reports.{sinks}
use Rattle.operator_sending.proofs.ReportSteps.{GoesOn}
use Rattle.operator_sending.proofs.requests.send_all.Given as goal

abbrev pub invariant-loop-command : goal.invariant-loop-command
invariant-loop-command g l =
    let output = g.W.Sink.state in
    let errors = g.E.Sink.state in
    let done = g.G.Gateway.done in
    GoesOn l.json (page_view l.before) l.fn.commands l.command-index (done l.fn.gateway) (done l.gateway)
    (sinks (output l.fn.output) (errors l.fn.errors)) (sinks (output l.output) (errors l.errors))
