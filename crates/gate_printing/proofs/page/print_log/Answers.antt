use Rattle.std.proofs.Common.{refl}
use Rattle.gate_model.specs.declared.record.Outcome.TheVariants.{Accepted}
use Rattle.gate_lines.specs.LogPage.{log_line}
use Rattle.gate_lines.proofs.LineSteps.{pair-appended}
use Rattle.gate_streams.proofs.Outputs.{writes_on}
use Rattle.gate_printing.proofs.page.print_log.Goals as goal

pub loop-index-preserved : goal.loop-index-preserved
loop-index-preserved g c =
    let state = g.W.Sink.state in
    let done = c.loop-index.invariant.0 in (
      _,
      writes_on (state c.args.output.now) (state c.loop-index.output) (state c.put_record.new.output) done _ c.loop-index.invariant.1 c.in_ok-put_record.ensures.ok,
      pair-appended log_line c.args.records.now c.args.outcomes.now c.loop-index.index c.index-records-index.result Accepted done _ _
          c.requires c.loop-index-test.true c.index-records-index.is refl c.loop-index.invariant.2,
    )
