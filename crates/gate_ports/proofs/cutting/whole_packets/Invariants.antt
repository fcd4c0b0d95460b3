use Rattle.std.proofs.Common.{◌≡◌, ◌≤◌, ◌-◌, ℕ, List, length, drop, true, false}
use Rattle.gate_packet.specs.Stream.{begins_short}
use Rattle.gate_ports.specs.Held.{AreWhole}
use Rattle.gate_ports.proofs.cutting.whole_packets.Given as goal

abbrev pub invariant-loop-size : goal.invariant-loop-size
invariant-loop-size l = record {
  within : l.whole ≤ length l.fn.bytes;
  whole : (left : List ℕ) → AreWhole (drop l.whole l.fn.bytes) left → AreWhole l.fn.bytes left;
  long : l.is_long ≡ true → begins_short (drop l.whole l.fn.bytes) ≡ false;
}

abbrev pub decreases-loop-size : goal.decreases-loop-size
decreases-loop-size l = length l.fn.bytes - l.whole
