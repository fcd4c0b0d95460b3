use Rattle.std.proofs.Common.{◌≡◌, None, ◌∙◌, ap}
use Rattle.std.proofs.lemmas.Result.{err_from_is_err_and}
use Rattle.toml.specs.View.{table_view}
use Rattle.gate_config.specs.declared.key.Key.TheVariants.{Agents, Operators, Pages, Workers}
use Rattle.gate_config.specs.Document.{bad_unless, least_unknown}
use Rattle.gate_config.specs.Keys.{document_keys}
use Rattle.gate_config.proofs.DocumentSteps.{IsRead, limits_fail, host_key_fails, workers_fail, hosts_fail, objects_fail, document_passes, lines_same, address_is}
use Rattle.gate_config.proofs.reading.config_of.Goals as goal

pub returns-in_err-limits-clause-fault : goal.returns-in_err-limits-clause-fault
returns-in_err-limits-clause-fault c =
    let known : least_unknown document_keys (table_view c.args.document.now) ≡ None = rw c.as_slice.ensures at c.in_ok-check_keys.ensures.known in
    let p = err_from_is_err_and c.from_residual-in_err-limits.result c.from_residual-in_err-limits.ensures.1 in
    rw (p.1, p.2) (λ not_memory. limits_fail (table_view c.args.document.now) _ known c.in_ok-agents.ensures.passed
    c.in_ok-operators.ensures.passed c.in_ok-pages.ensures.passed c.in_err-limits.ensures.failed)

pub returns-in_err-hosts-clause-fault : goal.returns-in_err-hosts-clause-fault
returns-in_err-hosts-clause-fault c =
    let known : least_unknown document_keys (table_view c.args.document.now) ≡ None = rw c.as_slice.ensures at c.in_ok-check_keys.ensures.known in
    let p = err_from_is_err_and c.from_residual-in_err-hosts.result c.from_residual-in_err-hosts.ensures.1 in
    rw (p.1, p.2) (λ not_memory. host_key_fails (table_view c.args.document.now) _ known c.in_ok-agents.ensures.passed
    c.in_ok-operators.ensures.passed c.in_ok-pages.ensures.passed c.in_ok-limits.ensures.passed c.in_err-hosts.ensures.bad.0
    c.in_err-hosts.ensures.bad.1)

pub returns-in_err-workers-clause-fault : goal.returns-in_err-workers-clause-fault
returns-in_err-workers-clause-fault c =
    let known : least_unknown document_keys (table_view c.args.document.now) ≡ None = rw c.as_slice.ensures at c.in_ok-check_keys.ensures.known in
    let p = err_from_is_err_and c.from_residual-in_err-workers.result c.from_residual-in_err-workers.ensures.1 in
    rw (p.1, p.2) (λ not_memory. workers_fail (table_view c.args.document.now) c.in_ok-hosts.hosts.now _ known
    c.in_ok-agents.ensures.passed c.in_ok-operators.ensures.passed c.in_ok-pages.ensures.passed c.in_ok-limits.ensures.passed
    c.in_ok-hosts.ensures.tables c.in_err-workers.ensures.bad.0 c.in_err-workers.ensures.bad.1)

pub returns-in_err-read_hosts-clause-fault : goal.returns-in_err-read_hosts-clause-fault
returns-in_err-read_hosts-clause-fault c =
    let read : IsRead (table_view c.args.document.now) c.in_ok-hosts.hosts.now = record {
      known = rw c.as_slice.ensures at c.in_ok-check_keys.ensures.known;
      agents = c.in_ok-agents.ensures.passed;
      operators = c.in_ok-operators.ensures.passed;
      pages = c.in_ok-pages.ensures.passed;
      limits = c.in_ok-limits.ensures.passed;
      tables = c.in_ok-hosts.ensures.tables;
      workers = ap (bad_unless Workers) c.in_ok-workers.ensures.number;
    } in
    let p = err_from_is_err_and c.from_residual-in_err-read_hosts.result c.from_residual-in_err-read_hosts.ensures.1 in
    rw (p.1, p.2) (λ not_memory. hosts_fail _ c.in_ok-hosts.hosts.now _ read (c.in_err-read_hosts.ensures.failed not_memory))

pub returns-in_err-table-clause-fault : goal.returns-in_err-table-clause-fault
returns-in_err-table-clause-fault c =
    let read : IsRead (table_view c.args.document.now) c.in_ok-hosts.hosts.now = record {
      known = rw c.as_slice.ensures at c.in_ok-check_keys.ensures.known;
      agents = c.in_ok-agents.ensures.passed;
      operators = c.in_ok-operators.ensures.passed;
      pages = c.in_ok-pages.ensures.passed;
      limits = c.in_ok-limits.ensures.passed;
      tables = c.in_ok-hosts.ensures.tables;
      workers = ap (bad_unless Workers) c.in_ok-workers.ensures.number;
    } in
    let p = err_from_is_err_and c.from_residual-in_err-table.result c.from_residual-in_err-table.ensures.1 in
    rw (p.1, p.2) (λ not_memory. objects_fail _ c.in_ok-hosts.hosts.now _ _ read c.in_ok-read_hosts.ensures.passed c.in_ok-read_hosts.ensures.lines
    (c.in_err-table.ensures.failed not_memory))

pub returns-in-Ok-clause-config : goal.returns-in-Ok-clause-config
returns-in-Ok-clause-config c =
    let read : IsRead (table_view c.args.document.now) c.in_ok-hosts.hosts.now = record {
      known = rw c.as_slice.ensures at c.in_ok-check_keys.ensures.known;
      agents = c.in_ok-agents.ensures.passed;
      operators = c.in_ok-operators.ensures.passed;
      pages = c.in_ok-pages.ensures.passed;
      limits = c.in_ok-limits.ensures.passed;
      tables = c.in_ok-hosts.ensures.tables;
      workers = ap (bad_unless Workers) c.in_ok-workers.ensures.number;
    } in
    record {
      passed = document_passes _ c.in_ok-hosts.hosts.now _ read c.in_ok-read_hosts.ensures.passed c.in_ok-read_hosts.ensures.lines c.in_ok-table.ensures.passed;
      agents = address_is (table_view c.args.document.now) Agents c.in_ok-agents.agents.text.now c.in_ok-agents.agents.socket _ c.in_ok-agents.ensures.text c.in_ok-agents.ensures.socket c.in-Ok.ensures.agents;
      operators = address_is (table_view c.args.document.now) Operators c.in_ok-operators.operators.text.now c.in_ok-operators.operators.socket _ c.in_ok-operators.ensures.text c.in_ok-operators.ensures.socket c.in-Ok.ensures.operators;
      pages = address_is (table_view c.args.document.now) Pages c.in_ok-pages.pages.text.now c.in_ok-pages.pages.socket _ c.in_ok-pages.ensures.text c.in_ok-pages.ensures.socket c.in-Ok.ensures.pages;
      limits = c.in_ok-limits.ensures.limits;
      workers = c.in_ok-workers.ensures.number;
      table = c.in_ok-table.ensures.table ∙ c.in_ok-read_hosts.ensures.lines ∙ lines_same (table_view c.args.document.now) c.in_ok-hosts.hosts.now c.in_ok-hosts.ensures.tables;
    }
