-- What a name of a host or a service may be: `is_name`. Own rule: a name stands whole between the
-- semicolons of an external command, and is shown on a page as it is.
use Rattle.std.specs.Prelude.{ℕ, Bool, not, ◌&&◌, ◌||◌, ◌==◌, nat_lt, nat_le, ◌-◌, List, length, slice_index}
use Rattle.std.specs.List.{list_any}

-- a byte that no name contains: a control byte, or the semicolon between the arguments of a command
abbrev pub is_barred : ℕ → Bool
is_barred byte = nat_lt byte 32 || (byte == 127) || (byte == 59)

-- the first or the last byte is a space
abbrev pub is_padded : List ℕ → Bool
is_padded name = (slice_index name 0 == 32) || (slice_index name (length name - 1) == 32)

-- a name of at most this many bytes
abbrev pub is_name : ℕ → List ℕ → Bool
is_name most name =
    not (length name == 0) && nat_le (length name) most && not (is_padded name) && not (list_any is_barred name)
