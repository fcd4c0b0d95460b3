-- The token of a form (`token_of`), and whether one is current (`is_current`). HMAC is that of RFC 2104 over SHA-256
-- (FIPS 180-4), with a key of one block, 64 bytes. Own rule: of what the token is, and how long it is current.
use Rattle.std.specs.Prelude.{ℕ, ◌/◌, ◌-◌, Bool, ◌||◌, List, ◌∷◌, ◌++◌, map, bit_xor}
use Rattle.std.specs.Fmt.{decimal}
use Rattle.std.specs.Str.{bytes_eq}
use Rattle.sha2.specs.Sha256.{sha256}
use Rattle.hex.specs.Hex.{encode_lower}

-- a key whose bytes have these bits turned
abbrev pub turned : ℕ → List ℕ → List ℕ
turned bits key = map (λ byte. bit_xor byte bits) key

-- the HMAC of a message: ipad is 0x36, opad is 0x5c
abbrev pub hmac : List ℕ → List ℕ → List ℕ
hmac key message = sha256 (turned 0x5c key ++ sha256 (turned 0x36 key ++ message))

-- an hour, a space and a user
abbrev pub message_of : List ℕ → ℕ → List ℕ
message_of user hour = decimal hour ++ 32 ∷ user

-- the token of a user in an hour since 1970: the hexadecimal digits of the HMAC, in lower case
abbrev pub token_of : List ℕ → List ℕ → ℕ → List ℕ
token_of key user hour = encode_lower (hmac key (message_of user hour))

-- whether a token is that of the user in the hour of this moment, or in the hour before it
abbrev pub is_current : List ℕ → List ℕ → ℕ → List ℕ → Bool
is_current key user now token =
    bytes_eq token (token_of key user (now / 3600)) || bytes_eq token (token_of key user (now / 3600 - 1))
