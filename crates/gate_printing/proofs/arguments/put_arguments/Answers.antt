use Rattle.gate_streams.proofs.Outputs.{writes_on}
use Rattle.gate_printing.proofs.Steps.{argument-more}
use Rattle.gate_printing.proofs.arguments.put_arguments.Goals as goal

pub loop-argument-preserved : goal.loop-argument-preserved
loop-argument-preserved g c =
    let state = g.W.Sink.state in
    let done = c.loop-argument.invariant.0 in (
      _,
      writes_on (state c.args.output.now) (state c.loop-argument.output) (state c.put_argument.new.output) done _ c.loop-argument.invariant.1 c.in_ok-put_argument.ensures.ok,
      argument-more done c.args.arguments.now _ c.loop-argument.argument-index _ c.loop-argument-test.true c.loop-argument.invariant.2,
    )
