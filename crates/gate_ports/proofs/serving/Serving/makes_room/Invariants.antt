use Rattle.std.proofs.Common.{◌≡◌, length}
use Rattle.gate_turns.specs.Standing.{standings}
use Rattle.gate_ports.specs.Room.{GiveWay}
use Rattle.gate_ports.specs.Waiting.{IsSameTime}
use Rattle.gate_ports.proofs.serving.Serving.makes_room.Given as goal

abbrev pub invariant-loop-self : goal.invariant-loop-self
invariant-loop-self l = record {
  gave_way : GiveWay l.now l.fn.self.peers.table.standings.items l.self.peers.table.standings.items;
  served : l.self.served ≡ l.fn.self.served;
  time : IsSameTime l.fn.self.peers l.self.peers;
  now : l.now ≡ l.fn.self.peers.now;
}

abbrev pub decreases-loop-self : goal.decreases-loop-self
decreases-loop-self l = length (standings l.self.peers.table.standings.items)
