use Rattle.std.proofs.Common.{◌≡◌}
use Rattle.gate_ports.specs.Peers.{Sends}
use Rattle.gate_ports.proofs.peer.Peer.send.Given as goal

abbrev pub invariant-loop : goal.invariant-loop
invariant-loop l = record {
  sent : Sends l.fn.self.unsent l.self.unsent;
  held : l.self.held ≡ l.fn.self.held;
  is_new : l.self.is_new ≡ l.fn.self.is_new;
}
