use Rattle.std.proofs.Common.{◌≡◌, length}
use Rattle.gate_ports.specs.Waiting.{IsNoneLate, IsSameTime}
use Rattle.gate_ports.proofs.peers.Peers.look_at_all.Given as goal

abbrev pub invariant-loop-place : goal.invariant-loop-place
invariant-loop-place l = record {
  room : length l.self.table.standings.items ≡ length l.fn.self.table.standings.items;
  none_late : IsNoneLate l.self l.place;
  time : IsSameTime l.fn.self l.self;
}
