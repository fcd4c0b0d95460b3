-- The bytes of a packet as `encode` and `encode_short` write them, `encoded`: the members of
-- `data_packet` in NSCA 2.9, common.h.
-- Own rule: the bytes without a meaning, which are the padding and what follows a text in its
-- field, are zeros, `IsZeroFilled`.
use Rattle.std.specs.Prelude.{◌≡◌, ℕ, ◌-◌, List, [], ◌∷◌, ◌++◌, length}
use Rattle.std.specs.List.{concat}
use Rattle.std.specs.Int.{w16, cast_unsigned}
use Rattle.byteorder.specs.Endian.{big_bytes}
use Rattle.gate_packet.specs.CheckWord.{check_word}
use Rattle.gate_packet.specs.Layout.{slice_of, zeros, output_size}
use Rattle.gate_packet.specs.Packet.{Content}

-- the field of this size at this offset holds the text and then zeros
abbrev pub IsFilled : List ℕ → ℕ → ℕ → List ℕ → Type 0
IsFilled bytes offset size text = slice_of bytes offset size ≡ text ++ zeros (size - length text)

-- all bytes outside the packet's texts and integers are zeros
pub record IsZeroFilled (bytes : List ℕ) (p : Content) : Type 0 where
  pub padding : IsFilled bytes 2 2 []
  pub host : IsFilled bytes 14 64 p.host
  pub service : IsFilled bytes 78 128 p.service
  pub output : IsFilled bytes 206 (output_size (length bytes)) p.output
  pub last_padding : IsFilled bytes (length bytes - 2) 2 []

-- ---- the bytes themselves

-- the text in a field of this size, and then zeros
abbrev pub filled : ℕ → List ℕ → List ℕ
filled size text = text ++ zeros (size - length text)

-- the packet's members in their order, in this size and with these bytes as the check word
abbrev pub members : ℕ → Content → List ℕ → List ℕ
members size p word =
    concat (big_bytes 2 3 ∷ zeros 2 ∷ word ∷ big_bytes 4 p.timestamp ∷ big_bytes 2 (cast_unsigned w16 p.code)
    ∷ filled 64 p.host ∷ filled 128 p.service ∷ filled (output_size size) p.output ∷ zeros 2 ∷ [])

-- the bytes of the packet in this size, with zeros where they have no meaning
unfoldable pub encoded : ℕ → Content → List ℕ
encoded size p = members size p (big_bytes 4 (check_word (members size p (zeros 4))))
