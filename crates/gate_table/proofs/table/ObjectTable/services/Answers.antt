use Rattle.std.proofs.Common.{◌∙◌}
use Rattle.gate_table.proofs.ServiceSteps.{services-named}
use Rattle.gate_table.proofs.table.ObjectTable.services.Goals as goal

pub returns-clause-named : goal.returns-clause-named
returns-clause-named c = λ name found.
    c.new.ensures ∙ c.service_places.ensures.services ∙ services-named c.args.self.now name c.args.host.place found
