use Rattle.std.proofs.Common.{arith}
use Rattle.gate_ports.proofs.Begun.{packet_end, line_end}
use Rattle.gate_ports.proofs.held.Held.end.Goals as goal

pub invariant_of-self : goal.invariant_of-self
invariant_of-self c =
    let all = c.len-self.ensures in
    record {
      ends = omega (arith, all);
      packet = packet_end c.args.self.now.role c.args.self.now.bytes.items c.len-self.result (omega (arith, all));
      line = line_end c.args.self.now.role c.args.self.now.bytes.items c.len-self.result (omega (arith, all));
      few = c.args.self.now.few;
    }
