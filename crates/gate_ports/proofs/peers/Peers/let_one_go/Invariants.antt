use Rattle.std.proofs.Common.{◌≡◌, length}
use Rattle.gate_ports.specs.Waiting.{IsSameTime}
use Rattle.gate_ports.proofs.peers.Peers.let_one_go.Given as goal

abbrev pub invariant-loop : goal.invariant-loop
invariant-loop l = record {
  room : length l.self.table.standings.items ≡ length l.fn.self.table.standings.items;
  time : IsSameTime l.fn.self l.self;
}
