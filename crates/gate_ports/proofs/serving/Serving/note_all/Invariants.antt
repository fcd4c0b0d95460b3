use Rattle.std.proofs.Common.{◌≡◌, length}
use Rattle.gate_ports.specs.Waiting.{IsSameTime}
use Rattle.gate_ports.specs.Serving.{KeepsServed}
use Rattle.gate_ports.proofs.serving.Serving.note_all.Given as goal

abbrev pub invariant-loop-index : goal.invariant-loop-index
invariant-loop-index l = record {
  room : length l.self.peers.table.standings.items ≡ length l.fn.self.peers.table.standings.items;
  place : KeepsServed l.fn.self l.self;
  time : IsSameTime l.fn.self.peers l.self.peers;
}
