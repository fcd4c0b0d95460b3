-- What is answered to a request: `IsAnswer`. Own rules, but for 404, 405 and 421 (RFC 9110, sections 15.5.5, 15.5.6 and
-- 15.5.20).
use Rattle.std.specs.Prelude.{ℕ, Bool, true, false, List, [], ◌∷◌, Option, Some, None, unwrap_or, codes, if◌then◌else◌}
use Rattle.std.specs.Borrow.{Bor}
use Rattle.std.specs.Str.{bytes_eq}
use Rattle.http.specs.declared.request.Request.{Request}
use Rattle.http.specs.declared.request.Parts.{Parts}
use Rattle.http_header.specs.FieldValue.{FieldValue}
use Rattle.http_header.specs.HeaderMap.{get, get_all}
use Rattle.http.specs.Request.{head_of}
use Rattle.http.specs.Uri.{uri_path, uri_query}
use Rattle.http_server.specs.declared.response.Response.{Response}
use Rattle.status_view.specs.declared.style.TheConstants.{STYLE}
use Rattle.page_watching.specs.declared.places.Place.{Place}
use Rattle.web_connections.specs.Answers.{IsKept, IsRefusal, IsDated}
use Rattle.web_connections.specs.Hosts.{answers_host}
use Rattle.status_serving.specs.declared.headings.Heading.{Heading}
use Rattle.status_serving.specs.declared.bodies.Form.TheVariants.{Html, Comments, Downtimes, Json, Metrics}
use Rattle.status_serving.specs.declared.changing.ChangesForm.TheVariants as changes
use Rattle.status_serving.specs.Methods.{body_asked}
use Rattle.status_serving.specs.Sending.{IsStatusOf, AreChangesOf, IsObjectOf}
use Rattle.statusweb.specs.declared.service.Route.{Route}
use Rattle.statusweb.specs.declared.service.Route.TheVariants.{Status, Object, Changes, Style}

-- what is shown at a path
abbrev pub route_of : List ℕ → Option Route
route_of path =
    if bytes_eq path (codes "/") then Some (Status Html)
    else if bytes_eq path (codes "/comments") then Some (Status Comments)
    else if bytes_eq path (codes "/downtime") then Some (Status Downtimes)
    else if bytes_eq path (codes "/object") then Some Object
    else if bytes_eq path (codes "/status.json") then Some (Status Json)
    else if bytes_eq path (codes "/metrics") then Some (Status Metrics)
    else if bytes_eq path (codes "/changes") then Some (Changes changes.Html)
    else if bytes_eq path (codes "/changes.json") then Some (Changes changes.Lines)
    else if bytes_eq path (codes "/changes.atom") then Some (Changes changes.Feed)
    else if bytes_eq path (codes "/style.css") then Some Style
    else None

-- what is answered at a path, to a request with these values of `If-None-Match`. That this is kept of what the gateways sent, and the clock the system's, no clause can say.
abbrev pub IsShownAt : Heading → List Place → ℕ → List ℕ → List FieldValue → Bool → Option Route → Response → Type 0
IsShownAt heading places clock query known whole None response = IsRefusal 404 [] response
IsShownAt heading places clock query known whole (Some (Status form)) response = IsStatusOf heading places clock query form whole response
IsShownAt heading places clock query known whole (Some Object) response = IsObjectOf heading places clock query whole response
IsShownAt heading places clock query known whole (Some (Changes form)) response = AreChangesOf heading places clock form whole response
IsShownAt heading places clock query known whole (Some Style) response = IsKept (codes "text/css; charset=utf-8") STYLE.now known response

-- what is answered to a method
abbrev pub IsMethodAnswer : Option Bool → Heading → List Place → ℕ → Parts → Response → Type 0
IsMethodAnswer (Some whole) heading places clock head response =
    IsShownAt heading places clock (unwrap_or (uri_query head.uri) []) (get_all head.headers (codes "if-none-match")) whole
    (route_of (uri_path head.uri)) response
IsMethodAnswer None heading places clock head response = IsRefusal 405 ((codes "allow", codes "GET, HEAD") ∷ []) response

-- what is answered at a clock, but for its date
abbrev pub IsAnswerAt : List (Bor (List ℕ)) → Heading → List Place → ℕ → Parts → Response → Type 0
IsAnswerAt hosts heading places clock head response =
    elim (answers_host hosts (get head.headers (codes "host"))) [
      | true ↦ IsMethodAnswer (body_asked head.method) heading places clock head response
      | false ↦ IsRefusal 421 [] response
    ]

-- what is answered to a request
abbrev pub IsAnswer : List (Bor (List ℕ)) → Heading → List Place → Request (List ℕ) → Response → Type 0
IsAnswer hosts heading places request response =
    (clock : ℕ) × (plain : Response) × IsAnswerAt hosts heading places clock (head_of request) plain × IsDated clock plain response
