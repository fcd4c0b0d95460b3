use Rattle.std.proofs.Common.{rules}
use Rattle.gate_kept.proofs.WriteSteps.{sound_packet}
use Rattle.gate_kept.proofs.writing.packet_bytes.Goals as goal

pub returns-clause-sound : goal.returns-clause-sound
returns-clause-sound c = λ last.
    sound_packet c.encode.result c.args.packet.now c.encode.ensures.bytes (search rules) last
    (c.one_reading.ensures.no_fault c.encode.result c.args.packet.now 4294967295 1 c.encode.ensures.packet)
