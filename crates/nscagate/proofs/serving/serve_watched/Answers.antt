use Rattle.std.proofs.Common.{ℕ, List, [], Option, sym, ap, subst}
use Rattle.gate_reader.specs.declared.report.Report.{Report}
use Rattle.nscagate.specs.Serve.{ServeEnds}
use Rattle.gate_worker.specs.Answered.{reports_of_each}
use Rattle.gate_start.specs.declared.fault.ServeFault.{ServeFault}
use Rattle.nscagate.proofs.Steps.{ends_before, ends_on}
use Rattle.nscagate.proofs.serving.serve_watched.Goals as goal

pub returns-in-Ok-clause-ended : goal.returns-in-Ok-clause-ended
returns-in-Ok-clause-ended g c =
    let state = g.W.Sink.state in
    subst (λ (reports : List (ℕ × List Report)). ServeEnds (state c.args.output.now) (state c.end.new.output) reports c.end.result.fault) (sym c.end.ensures.reports)
    (ends_on c.run-ran.result c.end.result.fault c.in-Ok.started.config (state c.args.output.now) (state c.start.new.output) (state c.end.new.output)
    c.in-Ok.ensures.ok c.run-ran.ensures.ran c.run-ran.ensures.fault c.end.ensures.ended)

pub returns-in-Err-clause-ended : goal.returns-in-Err-clause-ended
returns-in-Err-clause-ended g c =
    let before = g.W.Sink.state c.args.output.now in
    let after = g.W.Sink.state c.start.new.output in
    let end = c.without_reports in
    subst (λ (reports : List (ℕ × List Report)). ServeEnds before after reports end.result.fault) (sym (ap reports_of_each end.ensures.reports))
    (subst (λ (f : Option ServeFault). ServeEnds before after [] f) (sym end.ensures.fault) (ends_before before after c.in-Err.fault c.in-Err.ensures.err))
