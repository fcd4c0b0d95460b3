use Rattle.std.proofs.Common.{◌≤◌, ◌+◌, length}
use Rattle.gate_kept.specs.Kept.{IsPacketPart}
use Rattle.gate_kept.proofs.text.take_packets.Given as goal

abbrev pub invariant-packets : goal.invariant-packets
invariant-packets l = record {
  part : IsPacketPart l.text l.left l.packets.items l.count l.faults.items;
  room : l.count + length l.left ≤ length l.text;
}

abbrev pub decreases-packets : goal.decreases-packets
decreases-packets l = length l.left
