-- The responses of a web program, by their status, header fields and body. Own rules, but for `allow`, `date` and `etag`
-- (RFC 9110, sections 15.5.6, 6.6.1 and 8.8.3).
use Rattle.std.specs.Prelude.{◌≡◌, ℕ, ◌==◌, Bool, true, false, ◌||◌, nat_lt, if◌then◌else◌, List, [], ◌∷◌, ◌++◌, length, codes}
use Rattle.std.specs.List.{list_any}
use Rattle.std.specs.Str.{bytes_eq}
use Rattle.memchr.specs.Find.{matches}
use Rattle.sha2.specs.Sha256.{sha256}
use Rattle.hex.specs.Hex.{encode_lower}
use Rattle.http_header.specs.FieldValue.{FieldValue}
use Rattle.httpdate.specs.declared.date.HttpDate.{HttpDate}
use Rattle.httpdate.specs.Date.{unix_secs, date_text}
use Rattle.http.specs.StatusCode.{code_digits}
use Rattle.http_server.specs.declared.response.Response.{Response}
use Rattle.http_server.specs.Response.{IsResponse, fields_of}

-- a response has these fields and this content more, and the same status
pub record Extends (fields : List (List ℕ × List ℕ)) (content : List ℕ) (old new : Response) : Type 0 where
  pub headers : fields_of new ≡ fields_of old ++ fields
  pub body : new.body.items ≡ old.body.items ++ content
  pub status : new.status ≡ old.status

-- a response has the date of this clock as its last field, and is the same otherwise
pub record IsDated (clock : ℕ) (old new : Response) : Type 0 where
  pub date : HttpDate
  pub moment : unix_secs date ≡ clock
  pub field : Extends ((codes "date", date_text date) ∷ []) [] old new

-- no script runs, nothing but the style is loaded, and no other site learns of the page, nor loads it as a part of its own
-- (Fetch, section 3.7)
abbrev pub browser_fields : List (List ℕ × List ℕ)
browser_fields = (
  codes "content-security-policy",
  codes "default-src 'none'; style-src 'self'; form-action 'self'; base-uri 'none'; frame-ancestors 'none'",
)
    ∷ (codes "x-content-type-options", codes "nosniff")
    ∷ (codes "referrer-policy", codes "no-referrer")
    ∷ (codes "cross-origin-resource-policy", codes "same-origin")
    ∷ []

-- the fields of every answer, whose connection ends
abbrev pub guard_fields : List (List ℕ × List ℕ)
guard_fields = browser_fields ++ (codes "connection", codes "close") ∷ []

-- the fields of a body of this type, that may be kept as this says
abbrev pub body_fields : List ℕ → List ℕ → List (List ℕ × List ℕ)
body_fields kind caching = (codes "content-type", kind) ∷ (codes "cache-control", caching) ∷ guard_fields

-- a body of this type with this status, that is not kept
abbrev pub IsSent : ℕ → List ℕ → List ℕ → Response → Type 0
IsSent status kind body response = IsResponse status (body_fields kind (codes "no-store")) body response

-- the entity tag of a body: its SHA-256 in hexadecimal digits
abbrev pub entity_tag : List ℕ → List ℕ
entity_tag body = codes "\"" ++ encode_lower (sha256 body) ++ codes "\""

-- whether a value of `If-None-Match` is `*` or lists this tag, weak or not (RFC 9110, section 13.1.2). No tag has a quote
-- within, so a list has the bytes of a tag exactly where it has the tag.
abbrev pub has_tag : List ℕ → List ℕ → Bool
has_tag tag value = bytes_eq value (codes "*") || nat_lt 0 (length (matches value tag 0))

-- whether a request with these values has this body already
abbrev pub is_known : List ℕ → List FieldValue → Bool
is_known body values = list_any (λ value. has_tag (entity_tag body) value.bytes) values

-- a body of this type, that may be kept for five minutes; not modified, without a body (RFC 9110, section 15.4.5), where a
-- request with these values of `If-None-Match` has it already
abbrev pub IsKept : List ℕ → List ℕ → List FieldValue → Response → Type 0
IsKept kind body values response =
    elim (is_known body values) [
      | true ↦ IsResponse 304
          ((codes "etag", entity_tag body) ∷ (codes "cache-control", codes "max-age=300") ∷ guard_fields) [] response
      | false ↦ IsResponse 200 ((codes "etag", entity_tag body) ∷ body_fields kind (codes "max-age=300")) body response
    ]

-- what is wrong with a path or with a name in `Host`, and what to do
abbrev pub advice_of : ℕ → List ℕ
advice_of status =
    if status == 404 then codes ": nothing is at this path. The status is at /\n"
    else if status == 421
    then codes ": this server doesn't answer to this name. Use localhost or an IP address, or start it with --host NAME\n"
    else []

-- a refusal: the status, with its three digits and that advice as the text, and with these fields first
abbrev pub IsRefusal : ℕ → List (List ℕ × List ℕ) → Response → Type 0
IsRefusal status fields response =
    IsResponse status
    (fields ++ body_fields (codes "text/plain; charset=utf-8") (codes "no-store"))
    (code_digits status ++ advice_of status)
    response
