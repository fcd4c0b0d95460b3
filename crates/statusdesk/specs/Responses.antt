-- The responses of statusdesk that statusweb has none of. Own rules, but for `allow` and `location` (RFC 9110, sections
-- 15.5.6 and 15.4.4).
use Rattle.std.specs.Prelude.{ℕ, ◌==◌, List, [], ◌∷◌, codes, if◌then◌else◌}
use Rattle.http_server.specs.declared.response.Response.{Response}
use Rattle.web_connections.specs.Answers.{Extends, IsRefusal}

-- where the method is wrong, POST is allowed
abbrev pub allow_fields : ℕ → List (List ℕ × List ℕ)
allow_fields code = if code == 405 then (codes "allow", codes "POST") ∷ [] else []

-- a refusal with the status of this code
abbrev pub IsRefusedWith : ℕ → Response → Type 0
IsRefusedWith code response =
    (plain : Response) × IsRefusal code [] plain × Extends (allow_fields code) [] plain response

-- a browser is sent to this page
abbrev pub IsSentTo : List ℕ → Response → Type 0
IsSentTo location response =
    (plain : Response) × IsRefusal 303 [] plain × Extends ((codes "location", location) ∷ []) [] plain response
