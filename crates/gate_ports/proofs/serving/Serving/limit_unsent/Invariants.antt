use Rattle.std.proofs.Common.{◌≡◌, length}
use Rattle.gate_ports.proofs.serving.Serving.limit_unsent.Given as goal

abbrev pub invariant-loop : goal.invariant-loop
invariant-loop l = record {
  room : length l.self.peers.table.standings.items ≡ length l.fn.self.peers.table.standings.items;
  served : l.self.served ≡ l.fn.self.served;
}
