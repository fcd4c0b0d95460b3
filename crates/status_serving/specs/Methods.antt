-- Which methods are answered, and whether with a body (RFC 9110, section 9.3).
use Rattle.std.specs.Prelude.{ℕ, Bool, true, false, List, Option, Some, None, codes, if◌then◌else◌}
use Rattle.std.specs.Str.{bytes_eq}

-- whether a method asks for an answer with its body (GET) or without it (HEAD); another asks for none of these
abbrev pub body_asked : List ℕ → Option Bool
body_asked method =
    if bytes_eq method (codes "GET") then Some true
    else if bytes_eq method (codes "HEAD") then Some false
    else None
