use Rattle.std.proofs.Common.{length}
use Rattle.operator_checking.proofs.CheckedSteps.{unknown}
use Rattle.operator_checking.proofs.checking.run_check.Goals as goal

pub returns-in-Err-clause-checked : goal.returns-in-Err-clause-checked
returns-in-Err-clause-checked g c =
    unknown (length c.args.wanted.gateways.now) c.cause.result.now (g.W.Sink.state c.args.output.now) (g.W.Sink.state c.report_unknown.new.output) c.report_unknown.result c.report_unknown.ensures.printed c.report_unknown.ensures.status

pub returns-in-Err-configuration-clause-checked : goal.returns-in-Err-configuration-clause-checked
returns-in-Err-configuration-clause-checked g c =
    unknown (length c.args.wanted.gateways.now) c.cause-in-Err-configuration.result.now (g.W.Sink.state c.args.output.now) (g.W.Sink.state c.report_unknown-in-Err-configuration.new.output) c.report_unknown-in-Err-configuration.result c.report_unknown-in-Err-configuration.ensures.printed c.report_unknown-in-Err-configuration.ensures.status
