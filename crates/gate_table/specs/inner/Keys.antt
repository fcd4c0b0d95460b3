-- Only proofs and private functions use these definitions: by which bytes an object is found. Each
-- pair of names has one key.
use Rattle.std.specs.Prelude.{ℕ, ◌+◌, Bool, true, ◌&&◌, nat_le, List, ◌∷◌, ◌++◌, length, Option, Some, None}
use Rattle.gate_model.specs.declared.object.ObjectLine.{ObjectLine}

-- the length of the host's name, 128 more where a service's name follows, and then the names
abbrev pub key_of : List ℕ → Option (List ℕ) → List ℕ
key_of host None = length host ∷ host
key_of host (Some service) = (length host + 128) ∷ (host ++ service)

-- there is no service's name, or it has at most 127 bytes
abbrev pub is_short_service : Option (List ℕ) → Bool
is_short_service None = true
is_short_service (Some service) = nat_le (length service) 127

-- the names are no longer than those of a table
abbrev pub is_short : List ℕ → Option (List ℕ) → Bool
is_short host service = nat_le (length host) 63 && is_short_service service

-- the key of the line's names
abbrev pub line_key : ObjectLine → List ℕ
line_key line = key_of line.host line.service

-- the line's names are no longer than those of a table
abbrev pub is_short_line : ObjectLine → Bool
is_short_line line = is_short line.host line.service
