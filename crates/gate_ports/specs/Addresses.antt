-- Where a peer comes from. Source: C's sockaddr_in and sockaddr_in6 of Linux; RFC 4291, section 2.5.5.2 (mapped addresses).
use Rattle.std.specs.Prelude.{ℕ, List, [], ◌∷◌, ◌==◌, if◌then◌else◌, slice_index}
use Rattle.std.specs.Int.{from_be_bytes, w128}

-- the bytes at these offsets
abbrev pub bytes_at : List ℕ → List ℕ → List ℕ
bytes_at raw [] = []
bytes_at raw (offset ∷ offsets) = slice_index raw offset ∷ bytes_at raw offsets

-- the 16 bytes of an IPv6 address, or of the one to which an IPv4 address (of family 2) is mapped
abbrev pub octets_in : List ℕ → List ℕ
octets_in raw =
    if slice_index raw 0 == 2
    then 0 ∷ 0 ∷ 0 ∷ 0 ∷ 0 ∷ 0 ∷ 0 ∷ 0 ∷ 0 ∷ 0 ∷ 255 ∷ 255 ∷ bytes_at raw (4 ∷ 5 ∷ 6 ∷ 7 ∷ [])
    else bytes_at raw (8 ∷ 9 ∷ 10 ∷ 11 ∷ 12 ∷ 13 ∷ 14 ∷ 15 ∷ 16 ∷ 17 ∷ 18 ∷ 19 ∷ 20 ∷ 21 ∷ 22 ∷ 23 ∷ [])

-- the same as a number
abbrev pub address_in : List ℕ → ℕ
address_in raw = from_be_bytes w128 (octets_in raw)
