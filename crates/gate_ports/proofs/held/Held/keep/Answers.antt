use Rattle.std.proofs.Common.{ap, arith, length}
use Rattle.gate_ports.proofs.Begun.{packet_end, line_end}
use Rattle.gate_ports.proofs.held.Held.keep.Goals as goal

pub invariant_of-self-in-Err : goal.invariant_of-self-in-Err
invariant_of-self-in-Err c =
    let none = ap length c.new.ensures.items in
    let whole = c.requires.none in
    record {
      ends = omega (arith, none, whole);
      packet = packet_end c.args.self.now.role c.new.result.items c.args.self.now.whole (omega (arith, none));
      line = line_end c.args.self.now.role c.new.result.items c.args.self.now.whole (omega (arith, none));
      few = c.args.self.now.few;
    }
