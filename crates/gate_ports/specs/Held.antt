-- What is kept of the bytes that a peer sends. Own rules.
use Rattle.std.specs.Prelude.{◌≡◌, ◌⊎◌, ◌==◌, ◌<◌, ◌≤◌, ◌+◌, ℕ, List, [], ◌∷◌, ◌++◌, length, take, drop, nat_lt, filter, false, if◌then◌else◌}
use Rattle.std.specs.List.{list_any}
use Rattle.gate_turns.specs.declared.standing.Role.{Role}
use Rattle.gate_turns.specs.declared.standing.Role.TheVariants.{Agent, Operator}
use Rattle.gate_packet.specs.Stream.{IsCut, block_length}

-- the bytes are whole packets and then this rest, which is fewer than a packet
abbrev pub AreWhole : List ℕ → List ℕ → Type 0
AreWhole bytes rest = (packets : List (List ℕ)) × IsCut bytes packets rest

-- no line ends in these bytes
abbrev pub HasNoEnd : List ℕ → Type 0
HasNoEnd bytes = list_any (λ byte. byte == 10) bytes ≡ false

-- an agent's bytes are fewer than a packet
abbrev pub IsBegunPacket : Role → List ℕ → Type 0
IsBegunPacket role bytes = role ≡ Agent → length bytes < block_length bytes

-- an operator's bytes are a line without its end, and no more than is kept of one
abbrev pub IsBegunLine : Role → List ℕ → Type 0
IsBegunLine role bytes = role ≡ Operator → HasNoEnd bytes × (length bytes ≤ 8193)

-- ---- lines

-- what is kept of lines, of the first of which so many bytes are kept already: its first 8,193 bytes, and its LF
abbrev pub kept_after : ℕ → List ℕ → List ℕ
kept_after count [] = []
kept_after count (byte ∷ bytes) =
    if byte == 10 then byte ∷ kept_after 0 bytes
    else if nat_lt count 8193 then byte ∷ kept_after (count + 1) bytes
    else kept_after count bytes

-- each line is cut to 8,193 bytes
abbrev pub kept_lines : List ℕ → List ℕ
kept_lines bytes = kept_after 0 bytes

-- what is held of so many whole bytes and a line that has begun, once this piece has come: the whole ones are as they were,
-- and each line after them is cut
abbrev pub held_with : ℕ → List ℕ → List ℕ → List ℕ
held_with whole bytes piece = take whole bytes ++ kept_lines (drop whole bytes ++ piece)

-- the last byte is an LF
abbrev pub EndsLine : List ℕ → Type 0
EndsLine bytes = (front : List ℕ) × (bytes ≡ front ++ 10 ∷ [])

-- the bytes are whole lines, or none
abbrev pub AreLines : List ℕ → Type 0
AreLines bytes = (bytes ≡ []) ⊎ EndsLine bytes

-- the whole bytes are those of before, or go up to an LF
abbrev pub AreWholeLines : List ℕ → List ℕ → Type 0
AreWholeLines before whole = (whole ≡ before) ⊎ EndsLine whole

-- a piece was added to lines, of which so many bytes were whole
pub record AddsLines (whole : ℕ) (bytes piece : List ℕ) (new_whole : ℕ) (new_bytes : List ℕ) : Type 0 where
  pub kept : new_bytes ≡ held_with whole bytes piece
  pub ends : AreWholeLines (take whole bytes) (take new_whole new_bytes)

-- how many lines end in these bytes
abbrev pub line_ends : List ℕ → ℕ
line_ends bytes = length (filter (λ byte. byte == 10) bytes)

-- of these bytes, which can be handed out, so many were, after so many lines of a piece: all of them, but no more than up to
-- the end of its 64th line
pub record HandsOutLines (before : ℕ) (bytes : List ℕ) (count after : ℕ) : Type 0 where
  pub within : count ≤ length bytes
  pub counted : after ≡ before + line_ends (take count bytes)
  pub most : after ≤ 64
  pub all : after < 64 → count ≡ length bytes
  pub ends : after ≡ 64 → AreLines (take count bytes)
