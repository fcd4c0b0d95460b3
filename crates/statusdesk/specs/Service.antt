-- What is answered to a request: `IsAnswer`. Own rules, but for 404, 405 and 421 (RFC 9110, sections 15.5.5, 15.5.6 and
-- 15.5.20).
use Rattle.std.specs.Prelude.{◌≡◌, ◌⊎◌, ℕ, Bool, true, false, not, ◌&&◌, List, [], ◌∷◌, map, Option, Some, None, option_and_then, is_some, unwrap_or, codes, if◌then◌else◌}
use Rattle.std.specs.Str.{bytes_eq}
use Rattle.http.specs.declared.request.Request.{Request}
use Rattle.http_header.specs.HeaderMap.{get, get_all}
use Rattle.http.specs.Request.{head_of}
use Rattle.http.specs.Uri.{uri_path, uri_query}
use Rattle.http_server.specs.declared.response.Response.{Response}
use Rattle.gate_grammar.specs.Numbers.{number_of}
use Rattle.status_view.specs.declared.style.TheConstants.{STYLE}
use Rattle.web_connections.specs.Answers.{IsSent, IsKept, IsRefusal, IsDated}
use Rattle.web_connections.specs.Hosts.{answers_host}
use Rattle.status_serving.specs.declared.bodies.Form.TheVariants.{Html, Comments, Downtimes, Json, Metrics}
use Rattle.status_serving.specs.declared.changing.ChangesForm.TheVariants as changes
use Rattle.status_serving.specs.Methods.{body_asked}
use Rattle.status_serving.specs.Sending.{IsStatusOf, AreChangesOf}
use Rattle.desk_guard.specs.declared.refusal.Refusal.{Refusal}
use Rattle.desk_guard.specs.Refusal as refusal
use Rattle.desk_guard.specs.Tests.{first_failed}
use Rattle.desk_guard.specs.Guard.{user_of, user_tests}
use Rattle.desk_forms.specs.declared.fields.Field.{Field}
use Rattle.desk_forms.specs.declared.fields.FieldsFault.{FieldsFault}
use Rattle.desk_forms.specs.declared.admitting.AdmitFault.TheVariants.{Form}
use Rattle.desk_forms.specs.Fields.{given, fields_of, IsFaultOf}
use Rattle.desk_forms.specs.Admitted.{status_of}
use Rattle.page_watching.specs.declared.watching.Seen.{Seen}
use Rattle.page_watching.specs.Watching.{seen_place}
use Rattle.desk_outbox.specs.declared.showing.Asked.{Asked}
use Rattle.desk_outbox.specs.Labels.{host_in, service_in}
use Rattle.statusdesk.specs.declared.service.Route.{Route}
use Rattle.statusdesk.specs.declared.service.Route.TheVariants.{Status, Changes, Style, Object, Marks}
use Rattle.statusdesk.specs.Posted.{PostedView}
use Rattle.statusdesk.specs.Responses.{IsRefusedWith}
use Rattle.statusdesk.specs.Objects.{DeskView, AreKnown, IsObjectPage}
use Rattle.statusdesk.specs.Notes.{SaidView, AreOwn, note_of, are_settled}
use Rattle.statusdesk.specs.Commanding.{IsCommandAnswer}
use Rattle.statusdesk.specs.Marks.{IsMarksPage}
use Rattle.statusdesk.specs.Marking.{IsCommandsAnswer}

-- what is shown at a path
abbrev pub route_of : List ℕ → Option Route
route_of path =
    if bytes_eq path (codes "/") then Some (Status Html)
    else if bytes_eq path (codes "/comments") then Some (Status Comments)
    else if bytes_eq path (codes "/downtime") then Some (Status Downtimes)
    else if bytes_eq path (codes "/status.json") then Some (Status Json)
    else if bytes_eq path (codes "/metrics") then Some (Status Metrics)
    else if bytes_eq path (codes "/changes") then Some (Changes changes.Html)
    else if bytes_eq path (codes "/changes.json") then Some (Changes changes.Lines)
    else if bytes_eq path (codes "/changes.atom") then Some (Changes changes.Feed)
    else if bytes_eq path (codes "/style.css") then Some Style
    else if bytes_eq path (codes "/object") then Some Object
    else if bytes_eq path (codes "/marks") then Some Marks
    else None

-- the moment that a query names
abbrev pub at_in : List Field → Option ℕ
at_in fields = option_and_then number_of (given (codes "at") fields)

-- the orders of a user that a query asks for, at a clock: for the object that it names, or for each
pub record IsAskedBy (user query : List ℕ) (is_each : Bool) (clock : ℕ) (asked : Asked) : Type 0 where
  pub user_is : asked.user.now ≡ user
  pub each_is : asked.is_each ≡ is_each
  pub at_is : asked.at ≡ at_in (fields_of query)
  pub clock_is : asked.clock ≡ clock

-- the object is the one that a query names
pub record IsOfQuery (query : List ℕ) (asked : Asked) : Type 0 where
  pub host_is : asked.host.now ≡ host_in (fields_of query)
  pub service_is : asked.service.now ≡ service_in (fields_of query)

-- the page of the object says what the outboxes show of the orders that are asked for, and a browser loads it again where
-- those of one moment are asked for and some of that may change
pub record IsNotedPage (desk : DeskView) (seen : List Seen) (asked : Asked) (body : List ℕ) : Type 0 where
  pub said : List SaidView
  pub own : AreOwn asked seen desk.ports said
  pub page : IsObjectPage desk asked.clock seen asked.user.now asked.host.now asked.service.now (map note_of said)
      (is_some asked.at && not (are_settled said)) body

-- that page of the object that a query names, of what is kept of the gateways, for the user of the request
pub record IsObjectSent (desk : DeskView) (clock : ℕ) (request : Request (List ℕ)) (query : List ℕ) (response : Response)
    : Type 0 where
  pub user : List ℕ
  pub seen : List Seen
  pub asked : Asked
  pub body : List ℕ
  pub asks : user_of desk.guard request ≡ Some user
  pub may : first_failed (user_tests desk.guard request) ≡ None
  pub of_query : IsOfQuery query asked
  pub asked_by : IsAskedBy user query false clock asked
  pub at : map seen_place seen ≡ desk.places
  pub page : IsNotedPage desk seen asked body
  pub sent : IsSent 200 (codes "text/html; charset=utf-8") body response

-- why there is no page: the user may not send commands, or the query is no form
abbrev pub IsNoPage : DeskView → Request (List ℕ) → List ℕ → Response → Type 0
IsNoPage desk request query response =
    ((given : Refusal) × (first_failed (user_tests desk.guard request) ≡ Some given)
    × IsRefusedWith (refusal.status_of given) response)
    ⊎ ((fault : FieldsFault) × IsFaultOf query fault × IsRefusedWith (status_of (Form fault)) response)

-- no gateway shows the object that a query names
abbrev pub IsNowhere : DeskView → List ℕ → Response → Type 0
IsNowhere desk query response =
    (seen : List Seen) × (map seen_place seen ≡ desk.places)
    × AreKnown (host_in (fields_of query)) (service_in (fields_of query)) seen []
    × IsRefusal 404 [] response

-- that page, or why there is none: the same, or no gateway shows the object
abbrev pub IsObjectAnswer : DeskView → ℕ → Request (List ℕ) → List ℕ → Response → Type 0
IsObjectAnswer desk clock request query response =
    IsObjectSent desk clock request query response
    ⊎ (IsNoPage desk request query response ⊎ IsNowhere desk query response)

-- ---- many objects

-- the page of many objects says the same of the orders for each object
pub record AreNotedMarks (desk : DeskView) (seen : List Seen) (query : List ℕ) (asked : Asked) (body : List ℕ)
    : Type 0 where
  pub said : List SaidView
  pub own : AreOwn asked seen desk.ports said
  pub page : IsMarksPage desk asked.clock seen asked.user.now query (map note_of said)
      (is_some asked.at && not (are_settled said)) body

-- that page of what is kept of the gateways, for the user of the request
pub record AreMarksSent (desk : DeskView) (clock : ℕ) (request : Request (List ℕ)) (query : List ℕ) (response : Response)
    : Type 0 where
  pub user : List ℕ
  pub seen : List Seen
  pub asked : Asked
  pub body : List ℕ
  pub asks : user_of desk.guard request ≡ Some user
  pub may : first_failed (user_tests desk.guard request) ≡ None
  pub asked_by : IsAskedBy user query true clock asked
  pub at : map seen_place seen ≡ desk.places
  pub page : AreNotedMarks desk seen query asked body
  pub sent : IsSent 200 (codes "text/html; charset=utf-8") body response

abbrev pub IsMarksAnswer : DeskView → ℕ → Request (List ℕ) → List ℕ → Response → Type 0
IsMarksAnswer desk clock request query response =
    AreMarksSent desk clock request query response ⊎ IsNoPage desk request query response

-- ---- all

-- what is answered at a path. That this is kept of what the gateways sent, and the clock the system's, no clause can say.
abbrev pub IsShownAt : DeskView → ℕ → Request (List ℕ) → List ℕ → Bool → Option Route → Response → Type 0
IsShownAt desk clock request query whole None response = IsRefusal 404 [] response
IsShownAt desk clock request query whole (Some (Status form)) response =
    IsStatusOf desk.heading desk.places clock query form whole response
IsShownAt desk clock request query whole (Some (Changes form)) response =
    AreChangesOf desk.heading desk.places clock form whole response
IsShownAt desk clock request query whole (Some Style) response =
    IsKept (codes "text/css; charset=utf-8") STYLE.now (get_all (head_of request).headers (codes "if-none-match")) response
IsShownAt desk clock request query whole (Some Object) response = IsObjectAnswer desk clock request query response
IsShownAt desk clock request query whole (Some Marks) response = IsMarksAnswer desk clock request query response

-- what is answered to a method
abbrev pub IsMethodAnswer : Option Bool → DeskView → ℕ → Request (List ℕ) → Response → Type 0
IsMethodAnswer (Some whole) desk clock request response =
    IsShownAt desk clock request (unwrap_or (uri_query (head_of request).uri) []) whole
    (route_of (uri_path (head_of request).uri))
    response
IsMethodAnswer None desk clock request response = IsRefusal 405 ((codes "allow", codes "GET, HEAD") ∷ []) response

abbrev pub is_command : List ℕ → Bool
is_command path = bytes_eq path (codes "/command")

abbrev pub is_commands : List ℕ → Bool
is_commands path = bytes_eq path (codes "/commands")

-- what is answered at `/commands`, or at another path, where no outbox takes in anything
abbrev pub IsOtherAnswer : Bool → DeskView → ℕ → Request (List ℕ) → List PostedView → Response → Type 0
IsOtherAnswer true desk clock request taken response = IsCommandsAnswer desk clock request taken response
IsOtherAnswer false desk clock request taken response =
    (taken ≡ []) × IsMethodAnswer (body_asked (head_of request).method) desk clock request response

-- what is answered at `/command`, or at another path
abbrev pub IsPathAnswer : Bool → DeskView → ℕ → Request (List ℕ) → List PostedView → Response → Type 0
IsPathAnswer true desk clock request taken response = IsCommandAnswer desk clock request taken response
IsPathAnswer false desk clock request taken response =
    IsOtherAnswer (is_commands (uri_path (head_of request).uri)) desk clock request taken response

-- what is answered at a clock, but for its date
abbrev pub IsAnswerAt : Bool → DeskView → ℕ → Request (List ℕ) → List PostedView → Response → Type 0
IsAnswerAt true desk clock request taken response =
    IsPathAnswer (is_command (uri_path (head_of request).uri)) desk clock request taken response
IsAnswerAt false desk clock request taken response = (taken ≡ []) × IsRefusal 421 [] response

-- what is answered to a request, where outboxes have taken in these orders for it
abbrev pub IsAnswer : DeskView → Request (List ℕ) → Response → Type 0
IsAnswer desk request response =
    (clock : ℕ) × (taken : List PostedView) × (plain : Response)
    × IsAnswerAt (answers_host desk.guard.hosts.items (get (head_of request).headers (codes "host"))) desk clock request
    taken plain
    × IsDated clock plain response
