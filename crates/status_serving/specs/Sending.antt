-- The responses with the status (`IsStatusOf`) and with the changes (`AreChangesOf`) of gateways, and with
-- the page of an object (`IsObjectOf`). Own rules.
use Rattle.std.specs.Prelude.{◌≡◌, ℕ, Bool, false, ◌&&◌, List, map, is_some, Ok, Err, codes, if◌then◌else◌}
use Rattle.std.specs.List.{list_any, AllZip}
use Rattle.std.specs.Str.{bytes_eq}
use Rattle.form_urlencoded.specs.Form.{raw_pairs}
use Rattle.http_server.specs.declared.response.Response.{Response}
use Rattle.status_reading.specs.declared.rows.ShownObject.{ShownObject}
use Rattle.status_merge.specs.declared.gateway.Gateway.{Gateway}
use Rattle.status_merge.specs.Values.{value_in}
use Rattle.status_merge.specs.Selecting.{is_at}
use Rattle.page_watching.specs.declared.places.Place.{Place}
use Rattle.page_watching.specs.declared.watching.Seen.{Seen}
use Rattle.page_watching.specs.Watching.{seen_place}
use Rattle.web_connections.specs.Answers.{IsSent}
use Rattle.status_serving.specs.declared.headings.Heading.{Heading}
use Rattle.status_serving.specs.declared.bodies.Form.{Form}
use Rattle.status_serving.specs.declared.bodies.Form.TheVariants.{Html, Comments, Downtimes, Json, Metrics}
use Rattle.status_serving.specs.declared.changing.ChangesForm.{ChangesForm}
use Rattle.status_serving.specs.Pages.{IsShown, IsStatusBody, status_kind}
use Rattle.status_serving.specs.Changing.{IsChangesBody, kind_of}
use Rattle.status_serving.specs.Naming.{IsObjectBody}

-- whether a page is kept of a gateway
abbrev pub is_reached : Seen → Bool
is_reached seen = is_some seen.memory.last

-- without a page of any gateway the service is unavailable (RFC 9110, section 15.6.4)
abbrev pub reached_code : List Seen → ℕ
reached_code seen = if list_any is_reached seen then 200 else 503

-- the status code of a form; the metrics say themselves who is reached
abbrev pub status_code : List Seen → Form → ℕ
status_code seen Html = reached_code seen
status_code seen Comments = reached_code seen
status_code seen Downtimes = reached_code seen
status_code seen Json = reached_code seen
status_code seen Metrics = 200

-- whether a row is that of the object of these names, byte for byte
abbrev pub is_named : List ℕ → List ℕ → ShownObject → Bool
is_named host service row = bytes_eq row.host.now host && bytes_eq row.service.now service

-- whether the page of a gateway shows this object
abbrev pub has_object : List ℕ → List ℕ → Gateway → Bool
has_object host service gateway = elim gateway.page [
  | Ok page ↦ list_any (is_named host service) page.objects.items
  | Err cause ↦ false
]

-- whether a gateway is asked for by this name, or by none, and its page shows this object
abbrev pub shows_at : List ℕ → List ℕ → List ℕ → Gateway → Bool
shows_at at host service gateway = is_at at gateway.name.now && has_object host service gateway

-- the status code of the page of the object that a query names: no page of a gateway shows it, so it isn't found (RFC
-- 9110, section 15.5.5)
abbrev pub object_code : List Seen → List Gateway → List (List ℕ × List ℕ) → ℕ
object_code seen gateways pairs =
    if list_any is_reached seen
    then (if list_any (shows_at (value_in (codes "gateway") pairs) (value_in (codes "host") pairs) (value_in (codes "service") pairs)) gateways
    then 200 else 404)
    else 503

-- the status of the gateways at these places, of which this is kept, at this clock in this form, with its body or without
pub record IsStatusOf (heading : Heading) (places : List Place) (clock : ℕ) (query : List ℕ) (form : Form) (whole : Bool)
    (response : Response) : Type 0 where
  pub seen : List Seen
  pub body : List ℕ
  pub at : map seen_place seen ≡ places
  pub made : IsStatusBody whole heading seen query clock form body
  pub sent : IsSent (status_code seen form) (status_kind form) body response

-- the same of the changes of these gateways
pub record AreChangesOf (heading : Heading) (places : List Place) (clock : ℕ) (form : ChangesForm) (whole : Bool)
    (response : Response) : Type 0 where
  pub seen : List Seen
  pub body : List ℕ
  pub at : map seen_place seen ≡ places
  pub made : IsChangesBody whole heading seen clock form body
  pub sent : IsSent 200 (kind_of form) body response

-- the same of the page of the object that a query names
pub record IsObjectOf (heading : Heading) (places : List Place) (clock : ℕ) (query : List ℕ) (whole : Bool)
    (response : Response) : Type 0 where
  pub seen : List Seen
  pub gateways : List Gateway
  pub body : List ℕ
  pub at : map seen_place seen ≡ places
  pub shown : AllZip (IsShown clock) seen gateways
  pub made : IsObjectBody whole heading seen gateways query clock body
  pub sent : IsSent (object_code seen gateways (raw_pairs query)) (codes "text/html; charset=utf-8") body response
