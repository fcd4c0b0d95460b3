-- The header fields of a request that the tests look at (`values_of`), and what three of them say of where it goes to and
-- comes from: Host (RFC 9110, section 7.2), Origin (RFC 6454, section 7) and Sec-Fetch-Site (Fetch Metadata Request
-- Headers, section 2.3).
use Rattle.std.specs.Prelude.{ℕ, Bool, true, false, ◌&&◌, ◌==◌, if◌then◌else◌, List, [], ◌∷◌, length, map, take, drop, Option, Some, None, option_and_then, codes}
use Rattle.std.specs.Char.{is_ascii_digit}
use Rattle.std.specs.List.{list_all}
use Rattle.std.specs.Option.{option_map_or}
use Rattle.std.specs.Str.{bytes_eq, str_eq_ignore_ascii_case}
use Rattle.http.specs.declared.request.Request.{Request}
use Rattle.http.specs.Request.{head_of}
use Rattle.http_header.specs.FieldValue.{FieldValue}
use Rattle.http_header.specs.HeaderMap.{get_all}
use Rattle.http_header.specs.Token.{lowercase}

-- the values of a header field, in their order; its name in any case
abbrev pub values_of : List ℕ → Request (List ℕ) → List (List ℕ)
values_of name request = map (λ (value : FieldValue). value.bytes) (get_all (head_of request).headers (lowercase name))

-- the value of a field that is there once
abbrev pub only : List (List ℕ) → Option (List ℕ)
only (value ∷ []) = Some value
only values = None

-- nothing, or a port: a colon (58) and digits
abbrev pub is_port : List ℕ → Bool
is_port [] = true
is_port (byte ∷ digits) = byte == 58 && list_all is_ascii_digit digits

-- a value of Host is this host, in any case, with a port or without one
abbrev pub is_host_of : List ℕ → List ℕ → Bool
is_host_of host value = str_eq_ignore_ascii_case host (take (length host) value) && is_port (drop (length host) value)

-- the host, with its port, of an origin of HTTP
abbrev pub host_in : List ℕ → Option (List ℕ)
host_in origin =
    if bytes_eq (take 8 origin) (codes "https://") then Some (drop 8 origin)
    else if bytes_eq (take 7 origin) (codes "http://") then Some (drop 7 origin)
    else None

-- Origin is there once, and names this host
abbrev pub is_own_origin : List ℕ → List (List ℕ) → Bool
is_own_origin host origins =
    option_map_or (λ named. bytes_eq named host) (option_and_then host_in (only origins)) false

-- each Sec-Fetch-Site is `same-origin`
abbrev pub is_same_origin : List (List ℕ) → Bool
is_same_origin sites = list_all (λ site. bytes_eq site (codes "same-origin")) sites
