-- Where the members of a data packet of version 3 stand: `data_packet` of NSCA 2.9, common.h.
-- Offsets are in bytes from 0, and integers are in network byte order.
-- A packet has 4304 bytes, or 720 in the older form of the same version. The forms differ in the size
-- of the output's field alone.
-- Own rule: the offsets are those of the C struct with its 32-bit members at multiples of 4. Bytes
-- 2 to 3 and the last two are padding.
use Rattle.std.specs.Prelude.{◌≡◌, ◌⊎◌, ℕ, ℤ, ◌-◌, ◌==◌, List, ◌++◌, length, take, drop, replicate}
use Rattle.std.specs.List.{before_first}
use Rattle.std.specs.Int.{w16, cast_signed}
use Rattle.byteorder.specs.Endian.{big_number}

-- this many bytes from this offset on
abbrev pub slice_of : List ℕ → ℕ → ℕ → List ℕ
slice_of bytes offset count = take count (drop offset bytes)

-- the integer in this many bytes from this offset on
abbrev pub integer_at : List ℕ → ℕ → ℕ → ℕ
integer_at bytes offset count = big_number count (slice_of bytes offset count)

-- a field's text stands before its first NUL, and its last byte is read as a NUL
abbrev pub text_at : List ℕ → ℕ → ℕ → List ℕ
text_at bytes offset size = before_first (λ byte. byte == 0) (slice_of bytes offset (size - 1))

-- this many bytes that are zero
unfoldable pub zeros : ℕ → List ℕ
zeros count = replicate count 0

-- ---- the two forms

-- a packet may have this many bytes
abbrev pub IsPacketSize : ℕ → Type 0
IsPacketSize size = (size ≡ 4304) ⊎ (size ≡ 720)

-- the size of the output's field in a packet of this size: the other members and the padding take 208
abbrev pub output_size : ℕ → ℕ
output_size size = size - 208

-- ---- the members, in their order

-- the version of the packet's form
abbrev pub packet_version : List ℕ → ℕ
packet_version bytes = integer_at bytes 0 2

-- the check word that the agent wrote
abbrev pub crc32_value : List ℕ → ℕ
crc32_value bytes = integer_at bytes 4 4

-- the bytes that the check word covers: all, with zeros instead of its own four
abbrev pub without_check_word : List ℕ → List ℕ
without_check_word bytes = take 4 bytes ++ zeros 4 ++ drop 8 bytes

-- the moment of sending, in seconds
abbrev pub timestamp : List ℕ → ℕ
timestamp bytes = integer_at bytes 8 4

-- the plugin's return code, 16 bits of two's complement
abbrev pub return_code : List ℕ → ℤ
return_code bytes = cast_signed w16 (integer_at bytes 12 2)

-- the host's name
abbrev pub host_name : List ℕ → List ℕ
host_name bytes = text_at bytes 14 64

-- the service's name
abbrev pub svc_description : List ℕ → List ℕ
svc_description bytes = text_at bytes 78 128

-- the plugin's output
abbrev pub plugin_output : List ℕ → List ℕ
plugin_output bytes = text_at bytes 206 (output_size (length bytes))
