use Rattle.std.proofs.Common.{take_all}
use Rattle.std.proofs.lemmas.Result.{err_from_is_err_and}
use Rattle.toml.specs.Data.{as_table}
use Rattle.toml.specs.View.{view}
use Rattle.gate_config.specs.Document.{service_checks, service_lines}
use Rattle.gate_config.proofs.CheckSteps.{fails_at, lines_more, pass_more}
use Rattle.gate_config.proofs.objects.push_services.Goals as goal

pub returns-in_err-push_service-clause-failed : goal.returns-in_err-push_service-clause-failed
returns-in_err-push_service-clause-failed c =
    let p = err_from_is_err_and c.from_residual.result c.from_residual.ensures.1 in
    rw (p.1, p.2) (λ not_memory. fails_at (λ row. service_checks (as_table (view row))) c.args.rows.now c.loop-row.row-index c.row-item.result _
    c.loop-row-test.true c.row-item.is c.loop-row.invariant.passed (c.in_err-push_service.ensures.failed not_memory))

pub loop-row-preserved : goal.loop-row-preserved
loop-row-preserved c = record {
  lines = lines_more (λ row. service_lines c.args.host.now (as_table (view row))) c.args.rows.now c.loop-row.row-index c.row-item.result c.args.lines.now.items _ _
      c.loop-row-test.true c.row-item.is c.loop-row.invariant.lines c.in_ok-push_service.ensures.lines;
  passed = pass_more (λ row. service_checks (as_table (view row))) c.args.rows.now c.loop-row.row-index c.row-item.result
      c.loop-row-test.true c.row-item.is c.loop-row.invariant.passed c.in_ok-push_service.ensures.passed;
}

pub returns-clause-lines : goal.returns-clause-lines
returns-clause-lines c = rw (take_all c.loop-row.row-index c.args.rows.now c.loop-row-test.false) at c.loop-row.invariant.lines

pub returns-clause-passed : goal.returns-clause-passed
returns-clause-passed c = rw (take_all c.loop-row.row-index c.args.rows.now c.loop-row-test.false) at c.loop-row.invariant.passed
