use Rattle.gate_table.proofs.ServiceSteps.{services-modest}
use Rattle.gate_table.proofs.table.ObjectTable.most_services.Goals as goal

pub returns-clause-few : goal.returns-clause-few
returns-clause-few c = rw c.self.invariant.most_is (services-modest c.self.inside.lines.items c.self.invariant.faultless)
