use Rattle.std.proofs.lemmas.Result.{err_from_is_err_and}
use Rattle.gate_start.proofs.Steps.{unopened}
use Rattle.gate_start.proofs.starting.start.Goals as goal

pub returns-in_err-ports-clause-err : goal.returns-in_err-ports-clause-err
returns-in_err-ports-clause-err g c =
    let state = g.W.Sink.state in
    let read = c.in_ok-read in
    let p = err_from_is_err_and c.from_residual-in_err-ports.result c.from_residual-in_err-ports.ensures.1 in
    rw (p.1, p.2) (unopened read.read.0 read.read.1 (state c.args.output.now) (state c.open_ports.new.output) _ read.ensures.ok c.in_err-ports.ensures.err)

pub returns-clause-ok : goal.returns-clause-ok
returns-clause-ok g c =
    record {
      text = c.in_ok-read.read.0;
      configured = c.in_ok-read.ensures.ok;
      printed = c.in_ok-ports.ensures.ok;
    }
