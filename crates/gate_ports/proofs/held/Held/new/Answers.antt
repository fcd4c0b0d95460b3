use Rattle.std.proofs.Common.{arith}
use Rattle.gate_ports.proofs.Begun.{packet_none, line_none}
use Rattle.gate_ports.proofs.held.Held.new.Goals as goal

pub invariant_of-result : goal.invariant_of-result
invariant_of-result c = record {
  ends = omega arith;
  packet = packet_none c.args.role c.args.room.items c.requires;
  line = line_none c.args.role c.args.room.items c.requires;
  few = omega arith;
}
