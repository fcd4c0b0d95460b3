-- The hosts under which a program answers: `answers_host`. A page of another site whose name leads here (DNS rebinding) gets no
-- answer. Own rules.
use Rattle.std.specs.Prelude.{ℕ, Bool, true, false, not, ◌||◌, ◌==◌, List, [], ◌∷◌, take, Option, Some, None, codes}
use Rattle.std.specs.Borrow.{Bor}
use Rattle.std.specs.Char.{is_ascii_digit}
use Rattle.std.specs.List.{list_any, list_all, prefix_len}
use Rattle.std.specs.Str.{str_eq_ignore_ascii_case}
use Rattle.http_header.specs.FieldValue.{FieldValue}

-- the name of a host, before the colon (58) of its port
abbrev pub host_name : List ℕ → List ℕ
host_name value = take (prefix_len (λ byte. not (byte == 58)) value) value

-- whether it begins with a bracket (91), as an address of IPv6 does
abbrev pub begins_bracket : List ℕ → Bool
begins_bracket [] = false
begins_bracket (byte ∷ rest) = byte == 91

-- a name of digits and dots (46) alone is an address
abbrev pub is_number : List ℕ → Bool
is_number name = list_all (λ byte. is_ascii_digit byte || (byte == 46)) name

-- a value of `Host` under which it answers: an address, `localhost` or one of these names, in any case, with a port or
-- without one
abbrev pub is_served : List (Bor (List ℕ)) → List ℕ → Bool
is_served hosts value =
    begins_bracket value || is_number (host_name value) || str_eq_ignore_ascii_case (host_name value) (codes "localhost")
    || list_any (λ host. str_eq_ignore_ascii_case host.now (host_name value)) hosts

-- whether it answers under these names to a request with this field, or with none
abbrev pub answers_host : List (Bor (List ℕ)) → Option FieldValue → Bool
answers_host hosts None = true
answers_host hosts (Some value) = is_served hosts value.bytes
