use Rattle.std.proofs.Common.{if◌then◌else◌, List, subst, ap, ◌∙◌}
use Rattle.std.proofs.lemmas.Result.{err_from_is_err_and}
use Rattle.gate_model.specs.Meaning.{outcomes_of}
use Rattle.gate_lines.specs.LogPage.{log_text}
use Rattle.log_reading.specs.declared.logged.Logged.{Logged}
use Rattle.operator_restore.specs.Printed.{IsLastPage}
use Rattle.log_summary.specs.Lines.{summary_text, summary_json}
use Rattle.operator_log.specs.Summed.{summary}
use Rattle.operator_log.proofs.PageSteps.{same_page}
use Rattle.operator_log.proofs.summed.sum_up.Goals as goal

pub returns-in_default-clause-gateway : goal.returns-in_default-clause-gateway
returns-in_default-clause-gateway c = λ table records is last. absurd (c.in_default.ensures (log_text records (outcomes_of table records)) last.line last.begins)

pub returns-in_err-read_log_page-clause-gateway : goal.returns-in_err-read_log_page-clause-gateway
returns-in_err-read_log_page-clause-gateway c = λ table records is last.
    let page = same_page c.args.printed.now c.in-Some.page.now (log_text records (outcomes_of table records)) c.in-Some.ensures last in
    let p = err_from_is_err_and c.from_residual.result c.from_residual.ensures.1 in
    rw (p.1, p.2) (c.in_err-read_log_page.ensures.gateway table records is page)

pub returns-clause-summed : goal.returns-clause-summed
returns-clause-summed c = record {
  log = c.in_ok-read_log_page.field-0.items;
  page = subst (IsLastPage c.args.printed.now) c.in_ok-read_log_page.ensures.written c.in-Some.ensures;
  summed = c.in_ok-summary.ensures
      ∙ ap (λ (log : List Logged). if c.args.json then summary_json log else summary_text log) (c.as_slice.ensures.value ∙ c.since-log.ensures);
}

pub returns-clause-gateway : goal.returns-clause-gateway
returns-clause-gateway c = λ table records is last.
    let page = same_page c.args.printed.now c.in-Some.page.now (log_text records (outcomes_of table records)) c.in-Some.ensures last in
    c.in_ok-summary.ensures
    ∙ ap (λ (log : List Logged). if c.args.json then summary_json log else summary_text log) (c.as_slice.ensures.value ∙ c.since-log.ensures)
    ∙ ap (summary c.args.json c.args.moment.0) (c.in_ok-read_log_page.ensures.gateway table records is page)
