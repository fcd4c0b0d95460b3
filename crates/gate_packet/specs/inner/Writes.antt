-- Only proofs and private functions use these: what a write leaves of bytes, and what has room in
-- them.
use Rattle.std.specs.Prelude.{◌≡◌, ◌⊎◌, ℕ, ◌+◌, true, List, ◌++◌, take, drop, length}
use Rattle.gate_packet.specs.Packet.{Content, fits_short}

-- the bytes after a write of these at this offset
abbrev pub written : ℕ → List ℕ → List ℕ → List ℕ
written offset piece bytes = take offset bytes ++ piece ++ drop (offset + length piece) bytes

-- a packet of this content can be written in this size
abbrev pub HasRoom : ℕ → Content → Type 0
HasRoom size p = (size ≡ 4304) ⊎ ((size ≡ 720) × (fits_short p ≡ true))
