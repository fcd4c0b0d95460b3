use Rattle.std.proofs.Common.{◌≡◌, ◌≢◌, ◌≤◌, length}
use Rattle.gate_ports.specs.declared.peers.Door.TheVariants as door
use Rattle.gate_ports.specs.Waiting.{IsSameTime}
use Rattle.gate_ports.proofs.peers.Peers.accept_some.Given as goal

abbrev pub invariant-loop : goal.invariant-loop
invariant-loop l = record {
  room : length l.fn.self.table.standings.items ≤ length l.self.table.standings.items;
  time : IsSameTime l.fn.self l.self;
  shut : l.fn.self.door ≢ door.Open → (l.self.table ≡ l.fn.self.table) × (l.self.door ≡ l.fn.self.door);
}
