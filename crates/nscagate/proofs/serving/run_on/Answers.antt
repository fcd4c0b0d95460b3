use Rattle.std.proofs.Common.{None, sym, ◌∙◌}
use Rattle.std.proofs.lemmas.Simd.{splat_is_map}
use Rattle.nscagate.proofs.Steps.{faults_of, has_run}
use Rattle.nscagate.proofs.serving.run_on.Goals as goal

pub returns-clause-ran : goal.returns-clause-ran
returns-clause-ran g c =
    let made = c.gateway_settings-settings in
    has_run c.run_gateway.result c.args.config made.result (splat_is_map c.args.agents.items c.args.config.workers None (sym c.args.agents.ok.0 ∙ c.requires))
    made.ensures.workers made.ensures.worker made.ensures.table made.ensures.limit c.run_gateway.ensures.holds c.run_gateway.ensures.served c.run_gateway.ensures.table c.run_gateway.ensures.limit

pub returns-clause-fault : goal.returns-clause-fault
returns-clause-fault g c =
    let made = c.gateway_settings-settings in
    faults_of c.run_gateway.result made.result.workers _ made.result.capacity _ made.result.limit _ made.result.table _ made.ensures.workers made.ensures.capacity made.ensures.limit made.ensures.table
    c.run_gateway.ensures.fault
