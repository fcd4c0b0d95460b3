-- A refusal of http_server's own, with the fields of every answer: `guarded`. Own rule, but for `date` (RFC 9110, section
-- 6.6.1).
use Rattle.std.specs.Prelude.{ℕ, ◌-◌, List, [], ◌∷◌, ◌++◌, length, take, codes}
use Rattle.std.specs.List.{flat_map}
use Rattle.httpdate.specs.declared.date.HttpDate.{HttpDate}
use Rattle.httpdate.specs.Date.{date_text}
use Rattle.web_connections.specs.Answers.{browser_fields}

-- the line of a field
abbrev pub field_line : List ℕ × List ℕ → List ℕ
field_line field = field.0 ++ codes ": " ++ field.1 ++ codes "\r\n"

-- the fields that a refusal lacks: it has `connection: close` and `content-length: 0`
abbrev pub refusal_fields : HttpDate → List (List ℕ × List ℕ)
refusal_fields date =
    (codes "cache-control", codes "no-store") ∷ browser_fields ++ (codes "date", date_text date) ∷ []

-- a text that ends in an empty line, with the lines of these fields before that
abbrev pub guarded : HttpDate → List ℕ → List ℕ
guarded date text =
    take (length text - 2) text ++ flat_map field_line (refusal_fields date) ++ codes "\r\n"
