use Rattle.std.proofs.Common.{Some}
use Rattle.gate_ports.proofs.Placing.{set_stands, set_only}
use Rattle.gate_ports.proofs.table.Table.put.Goals as goal

pub returns-clause-stands : goal.returns-clause-stands
returns-clause-stands c = set_stands c.args.self.now.standings.items c.args.place (Some c.args.standing) c.requires

pub returns-clause-only : goal.returns-clause-only
returns-clause-only c = set_only c.args.self.now.standings.items c.args.place (Some c.args.standing)
