-- A packet of a script, `SentPacket`: what it reports, and the form in which it is sent; and the packet
-- that is read of its bytes, `received`. The forms are those of `data_packet` in NSCA 2.9 and 2.7,
-- common.h.
-- Own rule: where the first 720 bytes of a stream carry version 3 and their own check word they are
-- read as a packet, so a packet of 4304 bytes may be read as one of 720.
use Rattle.std.specs.Prelude.{◌≡◌, true, if◌then◌else◌}
use Rattle.gate_packet.specs.Packet.{Content, fits_short}
use Rattle.gate_packet.specs.Encoding.{encoded}
use Rattle.gate_packet.specs.Stream.{begins_short, shortened}
use Rattle.gate_replay.specs.declared.script_line.PacketForm.{PacketForm}
use Rattle.gate_replay.specs.declared.script_line.PacketForm.TheVariants.{Short, Long}

-- a packet, and the form in which it is sent
pub record SentPacket : Type 0 where
  pub form : PacketForm
  pub packet : Content

-- this packet in this form
abbrev pub sent : PacketForm → Content → SentPacket
sent form packet = record { form = form; packet = packet }

-- the packet can be written in this form: in 720 bytes where its output has at most 511
abbrev pub FitsForm : PacketForm → Content → Type 0
FitsForm Short packet = fits_short packet ≡ true
FitsForm Long packet = Unit {0}

-- the packet that is read where this one is sent in this form: one of 4304 bytes is read as one of 720
-- where its first 720 bytes are a block
abbrev pub received_in : PacketForm → Content → Content
received_in Short packet = packet
received_in Long packet = if begins_short (encoded 4304 packet) then shortened packet else packet

-- the packet that is read where this one is sent
abbrev pub received : SentPacket → Content
received s = received_in s.form s.packet
