use Rattle.gate_start.proofs.Steps.{opened}
use Rattle.gate_start.proofs.starting.open_ports.Goals as goal

pub returns-clause-ok : goal.returns-clause-ok
returns-clause-ok g c =
    let state = g.W.Sink.state in
    let bound = c.in_ok-listening.listening in
    opened c.address_lines-lines.result c.args.config.now bound.agents bound.operators bound.pages (state c.args.output.now) (state c.print.new.output)
    c.in_ok-listening.ensures.bound c.address_lines-lines.ensures c.in_ok-print.ensures.ok
