use Rattle.std.proofs.lemmas.Result.{on_ok_weaker, IfErr-weaker}
use Rattle.toml.specs.View.{table_view}
use Rattle.gate_config.specs.Keys.{host_keys}
use Rattle.gate_config.proofs.ObjectSteps.{KnowsKeys, host_pushed, host_passed, host_failed}
use Rattle.gate_config.proofs.objects.push_host.Goals as goal

pub returns-clause-lines : goal.returns-clause-lines
returns-clause-lines c =
    on_ok_weaker c.push_services.result
    (host_pushed _ (table_view c.in-Some.host.now) c.in_ok-name.name.now c.in_ok-threshold.threshold c.in_ok-services.services.now
    c.args.lines.now.items _ _ c.in_ok-line.field-0 c.in-Some.ensures c.in_ok-name.ensures.name c.in_ok-threshold.ensures.threshold
    c.in_ok-services.ensures.tables c.in_ok-line.ensures c.in_ok-push.ensures.items)
    c.push_services.ensures.lines

pub returns-clause-passed : goal.returns-clause-passed
returns-clause-passed c =
    let known : KnowsKeys host_keys (table_view c.in-Some.host.now) = rw c.as_slice.ensures at c.in_ok-check_keys.ensures.known in
    on_ok_weaker c.push_services.result
    (host_passed _ (table_view c.in-Some.host.now) c.in_ok-threshold.threshold c.in_ok-services.services.now c.in-Some.ensures known
    c.in_ok-name.ensures.passed c.in_ok-threshold.ensures.threshold c.in_ok-services.ensures.tables)
    c.push_services.ensures.passed

pub returns-clause-failed : goal.returns-clause-failed
returns-clause-failed c =
    let known : KnowsKeys host_keys (table_view c.in-Some.host.now) = rw c.as_slice.ensures at c.in_ok-check_keys.ensures.known in
    IfErr-weaker c.push_services.result _ _
    (λ fault fails not_memory. host_failed _ (table_view c.in-Some.host.now) c.in_ok-threshold.threshold c.in_ok-services.services.now fault
    c.in-Some.ensures known c.in_ok-name.ensures.passed c.in_ok-threshold.ensures.threshold c.in_ok-services.ensures.tables (fails not_memory))
    c.push_services.ensures.failed
