use Rattle.gate_ports.proofs.Late.{only_more}
use Rattle.gate_ports.proofs.peers.Peers.go_on.Goals as goal

pub returns-in-Ok-true-clause-only : goal.returns-in-Ok-true-clause-only
returns-in-Ok-true-clause-only c = only_more c.args.place _ _ _ c.take.ensures.only c.settle.ensures.only
