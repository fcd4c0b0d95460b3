-- How a stream of bytes is cut into blocks and a rest, `IsCut`; a block is what is read as one packet.
-- A data packet (NSCA 2.9, common.h) has 4304 bytes, or 720 in the older form of the same version.
-- Own rule: where the next 720 bytes carry version 3 and their own check word, they are a block;
-- otherwise the next 4304 are, whatever stands in them.
use Rattle.std.specs.Prelude.{◌≡◌, ◌↔◌, ℕ, ◌<◌, Bool, true, false, ◌&&◌, nat_le, if◌then◌else◌, List, [], ◌∷◌, ◌++◌, length, take}
use Rattle.gate_packet.specs.declared.block.Block.{Block}
use Rattle.gate_packet.specs.declared.block.Block.TheVariants.{Short, Long}
use Rattle.gate_packet.specs.Packet.{Content, content}
use Rattle.gate_packet.specs.Decoding.{IsPacket, is_sound}

-- 720 bytes have come, which carry version 3 and their own check word
abbrev pub begins_short : List ℕ → Bool
begins_short bytes = nat_le 720 (length bytes) && is_sound (take 720 bytes)

-- how many bytes the first block of these has; fewer may have come so far
unfoldable pub block_length : List ℕ → ℕ
block_length bytes = if begins_short bytes then 720 else 4304

-- the bytes are this block and then more
pub record Begins (bytes block more : List ℕ) : Type 0 where
  pub whole : bytes ≡ block ++ more
  pub long : length block ≡ block_length bytes

-- the bytes are these blocks, one after the other, and then what is left
abbrev pub Cuts : List ℕ → List (List ℕ) → List ℕ → Type 0
Cuts bytes [] left = bytes ≡ left
Cuts bytes (block ∷ blocks) left = (more : List ℕ) × Begins bytes block more × Cuts more blocks left

-- the bytes are fewer than their first block
pub record IsRest (bytes : List ℕ) : Type 0 where
  pub short : length bytes < block_length bytes

-- the bytes are these blocks, one after the other, and a rest that is fewer than a block
pub record IsCut (bytes : List ℕ) (blocks : List (List ℕ)) (rest : List ℕ) : Type 0 where
  pub cut : Cuts bytes blocks rest
  pub is_rest : IsRest rest

-- the bytes of a block
abbrev pub block_bytes : Block → List ℕ
block_bytes (Short bytes) = bytes
block_bytes (Long bytes) = bytes

-- ---- laws

-- a rest is fewer than 4304 bytes that don't begin with a block of 720
abbrev pub IsRestInWords : List ℕ → Type 0
IsRestInWords bytes = IsRest bytes ↔ (length bytes < 4304) × (begins_short bytes ≡ false)

-- the bytes can be cut
abbrev pub HasCut : List ℕ → Type 0
HasCut bytes = (blocks : List (List ℕ)) × (rest : List ℕ) × IsCut bytes blocks rest

-- the bytes can be cut in one way at most
abbrev pub HasOneCut : List ℕ → Type 0
HasOneCut bytes =
    (blocks others : List (List ℕ)) (rest other : List ℕ)
    → IsCut bytes blocks rest → IsCut bytes others other
    → (others ≡ blocks) × (other ≡ rest)

-- bytes that come later change none of the blocks
abbrev pub KeepsBlocks : List ℕ → List ℕ → Type 0
KeepsBlocks bytes later =
    (blocks : List (List ℕ)) (left : List ℕ)
    → Cuts bytes blocks left → Cuts (bytes ++ later) blocks (left ++ later)

-- the packet with the first 511 bytes of its output
abbrev pub shortened : Content → Content
shortened p = content p.timestamp p.code p.host p.service (take 511 p.output)

-- where the first 720 bytes of a packet are a block, they are that packet with its output shortened
abbrev pub IsReadAsShort : List ℕ → Content → Type 0
IsReadAsShort bytes p =
    IsPacket bytes p → begins_short bytes ≡ true → IsPacket (take 720 bytes) (shortened p)
