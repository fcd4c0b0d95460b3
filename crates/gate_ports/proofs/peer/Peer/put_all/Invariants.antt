use Rattle.std.proofs.Common.{◌≡◌, [], false}
use Rattle.gate_ports.specs.Peers.{Sends}
use Rattle.gate_ports.proofs.peer.Peer.put_all.Given as goal

abbrev pub invariant-loop : goal.invariant-loop
invariant-loop l = record {
  sent : Sends l.fn.bytes l.rest;
  empty : l.self.unsent ≡ [];
  none : l.fn.self.unsent ≡ [];
  held : l.self.held ≡ l.fn.self.held;
  is_new : l.self.is_new ≡ l.fn.self.is_new;
  not_all : l.self.has_all ≡ false;
}
