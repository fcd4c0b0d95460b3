use Rattle.gate_packet.specs.Stream.{block_bytes}
use Rattle.gate_packet.proofs.Cuts.{begins_shorter}
use Rattle.show_packets.proofs.show_whole.Goals as goal

pub loop-block-smaller : goal.loop-block-smaller
loop-block-smaller g c = begins_shorter c.loop-block.cutter (block_bytes c.in-Some.block) c.next_packet.new.self c.in-Some.ensures.some
