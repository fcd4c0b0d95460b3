-- The data packet of version 3, `data_packet` of NSCA 2.9, common.h, under encryption method 0:
-- which bytes are which packet, `IsPacket`, and why other bytes are none, `fault_of`.
-- Own rules: which packet is stale, that a packet has a host, and the order of the faults.
use Rattle.std.specs.Prelude.{◌≡◌, ◌≢◌, ℕ, ◌-◌, Bool, true, false, not, ◌&&◌, nat_lt, nat_le, ◌==◌, if◌then◌else◌, List, [], length, Option, Some, None, Result, Ok, Err}
use Rattle.gate_packet.specs.declared.decoding.PacketFault.{PacketFault}
use Rattle.gate_packet.specs.declared.decoding.PacketFault.TheVariants.{BadVersion, BadCheckWord, Stale, EmptyHost, OutOfMemory}
use Rattle.gate_packet.specs.CheckWord.{check_word}
use Rattle.gate_packet.specs.Layout.{IsPacketSize, packet_version, crc32_value, without_check_word, timestamp, return_code, host_name, svc_description, plugin_output}
use Rattle.gate_packet.specs.Packet.{Content, content, IsContent, fits_short}

-- the bytes are this packet
pub record IsPacket (bytes : List ℕ) (p : Content) : Type 0 where
  pub whole : IsPacketSize (length bytes)
  pub version : packet_version bytes ≡ 3
  pub covered : crc32_value bytes ≡ check_word (without_check_word bytes)
  pub sent : timestamp bytes ≡ p.timestamp
  pub code : return_code bytes ≡ p.code
  pub host : host_name bytes ≡ p.host
  pub service : svc_description bytes ≡ p.service
  pub output : plugin_output bytes ≡ p.output
  pub has_host : p.host ≢ []

-- the content of the bytes, whether or not they are a packet
abbrev pub content_of : List ℕ → Content
content_of bytes =
    content (timestamp bytes) (return_code bytes)
    (host_name bytes) (svc_description bytes) (plugin_output bytes)

-- the bytes carry version 3 and their own check word
abbrev pub is_sound : List ℕ → Bool
is_sound bytes =
    packet_version bytes == 3 && crc32_value bytes == check_word (without_check_word bytes)

-- ---- faults

-- at this moment a packet of that timestamp is older than the greatest age; 0 is no greatest age
abbrev pub is_stale : ℕ → ℕ → ℕ → Bool
is_stale timestamp now greatest_age =
    not (greatest_age == 0) && nat_le timestamp now && nat_lt greatest_age (now - timestamp)

-- the packet isn't stale at this moment
abbrev pub IsFresh : ℕ → ℕ → Content → Type 0
IsFresh now greatest_age p = is_stale p.timestamp now greatest_age ≡ false

-- the first fault of the bytes at this moment
unfoldable pub fault_of : List ℕ → ℕ → ℕ → Option PacketFault
fault_of bytes now greatest_age =
    if not (packet_version bytes == 3) then Some BadVersion
    else (if not (crc32_value bytes == check_word (without_check_word bytes)) then Some BadCheckWord
    else (if is_stale (timestamp bytes) now greatest_age then Some Stale
    else (if length (host_name bytes) == 0 then Some EmptyHost
    else None)))

-- the fault is the first of the bytes at this moment, or out of memory where they have none
abbrev pub IsReportedFault : List ℕ → ℕ → ℕ → PacketFault → Type 0
IsReportedFault bytes now greatest_age OutOfMemory = fault_of bytes now greatest_age ≡ None
IsReportedFault bytes now greatest_age fault = fault_of bytes now greatest_age ≡ Some fault

-- the result is this packet, or out of memory
abbrev pub IsPacketOrOutOfMemory : Result Content PacketFault → Content → Type 0
IsPacketOrOutOfMemory (Ok packet) p = packet ≡ p
IsPacketOrOutOfMemory (Err fault) p = fault ≡ OutOfMemory

-- the result is the packet that the bytes are, if it isn't stale at this moment, or out of memory
abbrev pub ReadsFreshPacket : List ℕ → ℕ → ℕ → Result Content PacketFault → Type 0
ReadsFreshPacket bytes now greatest_age result =
    (p : Content) → IsPacket bytes p → IsFresh now greatest_age p → IsPacketOrOutOfMemory result p

-- the result is the first fault of the bytes at this moment, if they have one
abbrev pub ReportsFirstFault : List ℕ → ℕ → ℕ → Result Content PacketFault → Type 0
ReportsFirstFault bytes now greatest_age result =
    (fault : PacketFault) → fault_of bytes now greatest_age ≡ Some fault → result ≡ Err fault

-- ---- laws

-- the bytes are at most one packet
abbrev pub IsAtMostOnePacket : List ℕ → Type 0
IsAtMostOnePacket bytes = (p q : Content) → IsPacket bytes p → IsPacket bytes q → p ≡ q

-- a packet is the content of its bytes, and can be written
abbrev pub IsContentOfBytes : List ℕ → Content → Type 0
IsContentOfBytes bytes p = IsPacket bytes p → (content_of bytes ≡ p) × IsContent p

-- bytes of a packet's size without a fault are the packet with their content
abbrev pub IsPacketIfFaultless : List ℕ → ℕ → ℕ → Type 0
IsPacketIfFaultless bytes now greatest_age =
    IsPacketSize (length bytes) → fault_of bytes now greatest_age ≡ None
    → IsPacket bytes (content_of bytes)

-- the only fault that a packet's bytes can have is that the packet is stale
abbrev pub IsFaultlessOrStale : List ℕ → Content → ℕ → ℕ → Type 0
IsFaultlessOrStale bytes p now greatest_age =
    IsPacket bytes p
    → fault_of bytes now greatest_age
    ≡ (if is_stale p.timestamp now greatest_age then Some Stale else None)

-- a packet that was read from 720 bytes can be written in 720
abbrev pub FitsShortIfRead : List ℕ → Content → Type 0
FitsShortIfRead bytes p = length bytes ≡ 720 → IsPacket bytes p → fits_short p ≡ true
