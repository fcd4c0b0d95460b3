use Rattle.std.proofs.Common.{ap, length, length-append, arith}
use Rattle.gate_kept.proofs.PartSteps.{packet_step}
use Rattle.gate_kept.proofs.text.take_packets.Goals as goal

pub packets-preserved : goal.packets-preserved
packets-preserved c =
    let i = c.packets.invariant in
    let split = c.in-Some.ensures.some in
    record {
      part = packet_step c.args.text.now c.packets.left.now c.in-Some.bytes.now c.in-Some.more.now c.packets.packets.items c.take_packet.new.packets.items
          c.packets.count c.packets.faults.items c.take_packet.new.faults.items i.part split.0 split.1 c.in_ok-take_packet.ensures;
      room = omega (arith, i.room, ap length split.0, length-append c.in-Some.bytes.now c.in-Some.more.now, split.1.whole);
    }
