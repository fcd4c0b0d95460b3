use Rattle.std.proofs.Common.{◌≡◌, length}
use Rattle.gate_ports.proofs.peer.Peer.drop_all.Given as goal

abbrev pub invariant-loop : goal.invariant-loop
invariant-loop l = record {
  room : length l.scratch ≡ length l.fn.scratch;
  unsent : l.self.unsent ≡ l.fn.self.unsent;
}
