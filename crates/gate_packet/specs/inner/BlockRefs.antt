-- Only proofs and private functions use these: what is known of a whole block where it stands.
use Rattle.std.specs.Prelude.{◌≡◌, ℕ, not, ◌==◌, if◌then◌else◌, List, length, Option, Some, None}
use Rattle.gate_packet.specs.declared.decoding.PacketFault.{PacketFault}
use Rattle.gate_packet.specs.declared.decoding.PacketFault.TheVariants.{BadVersion, BadCheckWord}
use Rattle.gate_packet.specs.CheckWord.{check_word}
use Rattle.gate_packet.specs.Layout.{IsPacketSize, packet_version, crc32_value, without_check_word}

-- the fault of the bytes' version or check word
abbrev pub integrity_fault : List ℕ → Option PacketFault
integrity_fault bytes =
    if not (packet_version bytes == 3) then Some BadVersion
    else (if not (crc32_value bytes == check_word (without_check_word bytes)) then Some BadCheckWord
    else None)

-- the bytes have a packet's size, and this is the fault of their version or check word
pub record IsBlockRef (bytes : List ℕ) (fault : Option PacketFault) : Type 0 where
  pub size : IsPacketSize (length bytes)
  pub found : fault ≡ integrity_fault bytes
