-- What a packet reports, `Content`, and which contents can be written, `IsContent`: the members of `data_packet` in
-- NSCA 2.9, common.h, that an agent chooses. A text ends at a NUL within its field, so it is shorter than the field.
-- Own rules: a packet always names a host, and the order of the faults.
use Rattle.std.specs.Prelude.{◌≡◌, ◌≤◌, ◌≢◌, ℕ, ℤ, Bool, false, nat_lt, nat_le, ◌==◌, if◌then◌else◌, List, [], length, Option, Some, None, is_some}
use Rattle.std.specs.List.{list_any}
use Rattle.gate_model.specs.declared.submission.Body.{Body}
use Rattle.gate_model.specs.declared.submission.Body.TheVariants as bodies
use Rattle.gate_packet.specs.declared.packet.Field.{Field}
use Rattle.gate_packet.specs.declared.packet.Field.TheVariants.{Host, Service, Output}
use Rattle.gate_packet.specs.declared.packet.ContentFault.{ContentFault}
use Rattle.gate_packet.specs.declared.packet.ContentFault.TheVariants.{EmptyHost, TooLong, HasNul}

-- what a packet reports: its moment of sending in seconds, the return code, and three texts
pub record Content : Type 0 where
  pub timestamp : ℕ
  pub code : ℤ
  pub host : List ℕ
  pub service : List ℕ
  pub output : List ℕ

-- the content with these members
abbrev pub content : ℕ → ℤ → List ℕ → List ℕ → List ℕ → Content
content timestamp code host service output = record {
  timestamp = timestamp;
  code = code;
  host = host;
  service = service;
  output = output;
}

-- a NUL stands in the text
abbrev pub has_nul : List ℕ → Bool
has_nul text = list_any (λ byte. byte == 0) text

-- the text has at most this many bytes, and no NUL
pub record IsText (most : ℕ) (text : List ℕ) : Type 0 where
  pub short : length text ≤ most
  pub no_nul : has_nul text ≡ false

-- a packet can be written of this content
pub record IsContent (p : Content) : Type 0 where
  pub has_host : p.host ≢ []
  pub host : IsText 63 p.host
  pub service : IsText 127 p.service
  pub output : IsText 4095 p.output

-- a packet of this content can be written in 720 bytes
abbrev pub fits_short : Content → Bool
fits_short p = nat_le (length p.output) 511

-- why the text has no room in its field, or would not be read to its end
abbrev pub text_fault : Field → ℕ → List ℕ → Option ContentFault
text_fault field most text =
    if nat_lt most (length text) then Some (TooLong field)
    else (if has_nul text then Some (HasNul field) else None)

-- the first cause why no packet can be written of these texts
abbrev pub content_fault : List ℕ → List ℕ → List ℕ → Option ContentFault
content_fault host service output =
    if length host == 0 then Some EmptyHost
    else (if is_some (text_fault Host 63 host) then text_fault Host 63 host
    else (if is_some (text_fault Service 127 service) then text_fault Service 127 service
    else text_fault Output 4095 output))

-- the service that the text names: an empty text names none
abbrev pub service_of : List ℕ → Option (List ℕ)
service_of text = if length text == 0 then None else Some text

-- the check result that a packet reports: the host's own where the packet names no service
abbrev pub reported_body : Content → Body
reported_body p = bodies.Result p.host (service_of p.service) p.code p.output
