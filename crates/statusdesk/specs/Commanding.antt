-- What is answered to a request for `/command` (`IsCommandAnswer`): it is refused, or its form is admitted, and at each
-- gateway that the form is for its order on the page that is kept of it is put into that gateway's outbox, or the page
-- objects; and no other order is put into one. Own rules.
use Rattle.std.specs.Prelude.{◌≡◌, ◌⊎◌, ℕ, Bool, true, false, List, [], ◌∷◌, ◌++◌, map, Option, Some, None, Result, Ok, Err, codes, ⊤}
use Rattle.std.specs.Fmt.{decimal}
use Rattle.std.specs.List.{list_any}
use Rattle.http.specs.declared.request.Request.{Request}
use Rattle.http.specs.Request.{body_of}
use Rattle.http_server.specs.declared.response.Response.{Response}
use Rattle.status_reading.specs.Rows.{PageView}
use Rattle.status_view.specs.Links.{object_link}
use Rattle.page_watching.specs.declared.watching.Seen.{Seen}
use Rattle.page_watching.specs.Watching.{seen_place}
use Rattle.web_connections.specs.Answers.{IsSent}
use Rattle.desk_guard.specs.declared.guard.Guard.{Guard}
use Rattle.desk_guard.specs.declared.sent.SentForm.{SentForm}
use Rattle.desk_guard.specs.declared.refusal.Refusal.TheVariants.{Repeated}
use Rattle.desk_forms.specs.declared.fields.Field.{Field}
use Rattle.desk_forms.specs.declared.admitting.AdmitFault.{AdmitFault}
use Rattle.desk_forms.specs.declared.admitting.AdmitFault.TheVariants as admit
use Rattle.desk_forms.specs.declared.requests.FormFault.TheVariants as fault
use Rattle.desk_forms.specs.Fields.{fields_of}
use Rattle.desk_forms.specs.Sender.{Sender}
use Rattle.desk_forms.specs.Admitted as admitted
use Rattle.desk_forms.specs.Admitted.{IsAdmitted, IsRefused}
use Rattle.desk_forms.specs.Requests as requests
use Rattle.desk_forms.specs.Faults.{first_fault}
use Rattle.desk_sending.specs.declared.orders.Objection.{Objection}
use Rattle.desk_sending.specs.declared.orders.Objection.TheVariants as objection
use Rattle.desk_sending.specs.Orders.{is_asked, IsObjection}
use Rattle.desk_outbox.specs.Labels.{LabelledView, host_in, service_in, IsLabelledOf}
use Rattle.statusdesk.specs.declared.commanding.Done.{Done}
use Rattle.statusdesk.specs.declared.commanding.Done.TheVariants.{NotAsked, Objected, Untaken, Taken}
use Rattle.statusdesk.specs.Posted.{PostedView}
use Rattle.statusdesk.specs.Taking.{posted_in}
use Rattle.statusdesk.specs.Responses.{IsRefusedWith, IsSentTo}
use Rattle.statusdesk.specs.Kept.{IsKeptOf, IsNotKept}
use Rattle.statusdesk.specs.Objects.{DeskView, IsObjectPage}
use Rattle.statusdesk.specs.Notes.{SaidView, note_of}
use Rattle.statusdesk.specs.Said.{is_taken, said_of}

-- the order is the form's on the page that is kept of a gateway that the form is for
pub record IsOrderAt (clock : ℕ) (form : Sender) (seen : Seen) (order : LabelledView) : Type 0 where
  pub asked : is_asked seen.place.name.now form.fields ≡ true
  pub page : PageView
  pub kept : IsKeptOf seen page
  pub labelled : IsLabelledOf page (record { 0 = clock }) form order

-- the page doesn't show the object, or the entry, that the form names
abbrev pub is_elsewhere : Objection → Bool
is_elsewhere (objection.Form fault.NoObject) = true
is_elsewhere (objection.Form fault.NoEntry) = true
is_elsewhere why = false

abbrev pub IsElsewhere : PageView → Sender → Type 0
IsElsewhere page form =
    (first_fault page form.fields ≡ Some fault.NoObject) ⊎ (first_fault page form.fields ≡ Some fault.NoEntry)

-- why a form is not for a gateway: it names another one, no page is kept, or that page doesn't show what it names
abbrev pub IsNotFor : Sender → Seen → Type 0
IsNotFor form seen =
    (is_asked seen.place.name.now form.fields ≡ false)
    ⊎ (IsNotKept seen ⊎ ((page : PageView) × IsKeptOf seen page × IsElsewhere page form))

-- why it has no order there: memory ran out, or the objection of its page
abbrev pub IsObjected : ℕ → Sender → Seen → Objection → Type 0
IsObjected clock form seen why =
    (is_elsewhere why ≡ false)
    × ((why ≡ objection.OutOfMemory)
    ⊎ ((page : PageView) × IsKeptOf seen page × IsObjection page (record { 0 = clock }) form why))

-- what became of a form at a gateway: it is not for it; or the page that is kept of it objects; or its order there was
-- made, and the gateway's own outbox took it in, or did not
abbrev pub IsDone : ℕ → Sender → Seen → Done → Type 0
IsDone clock form seen NotAsked = IsNotFor form seen
IsDone clock form seen (Objected why) =
    (is_asked seen.place.name.now form.fields ≡ true) × IsObjected clock form seen why
IsDone clock form seen (Untaken fault) = (order : LabelledView) × IsOrderAt clock form seen order
IsDone clock form seen (Taken posted) =
    (posted.gateway ≡ seen.place.name.now) × IsOrderAt clock form seen posted.order

-- the same of each of these gateways
abbrev pub AreDone : ℕ → Sender → List Seen → List Done → Type 0
AreDone clock form [] [] = ⊤
AreDone clock form (seen ∷ gateways) (done ∷ all) = IsDone clock form seen done × AreDone clock form gateways all
AreDone clock form gateways all = ⊥

-- ---- the answer

-- the code for what became of it at a gateway that didn't take it: the fault's, Conflict or Service Unavailable
abbrev pub code_of : Done → Option ℕ
code_of NotAsked = None
code_of (Taken posted) = None
code_of (Untaken fault) = Some 503
code_of (Objected (objection.Form fault)) = Some (requests.status_of fault)
code_of (Objected (objection.Refused body outcome)) = Some 409
code_of (Objected (objection.Unwritable body)) = Some 409
code_of (Objected objection.OutOfMemory) = Some 503

-- that of the first
abbrev pub first_code : List Done → Option ℕ
first_code [] = None
first_code (done ∷ all) = elim (code_of done) [ Some code ↦ Some code | None ↦ first_code all ]

-- the page of the object that a form names, and the same after a command of this clock
abbrev pub link_of : List Field → List ℕ
link_of fields = object_link (host_in fields) (service_in fields)

abbrev pub location_after : ℕ → List Field → List ℕ
location_after clock fields = link_of fields ++ codes "&at=" ++ decimal clock

-- the object's page says this of it
pub record IsNoted (desk : DeskView) (clock code : ℕ) (form : Sender) (seen : List Seen) (said : List SaidView)
    (response : Response)
    : Type 0 where
  pub body : List ℕ
  pub page : IsObjectPage desk clock seen form.user (host_in form.fields) (service_in form.fields) (map note_of said)
      false body
  pub sent : IsSent code (codes "text/html; charset=utf-8") body response

abbrev pub IsTakenAnswer : ℕ → Sender → Bool → Response → Type 0
IsTakenAnswer clock form true response = IsSentTo (location_after clock form.fields) response
IsTakenAnswer clock form false response = IsRefusedWith 404 response

-- the way to the object's page where each gateway that the form is for has taken it; that page, with what became of it at
-- each, where one hasn't; or a refusal where it is for none
abbrev pub Reports : DeskView → ℕ → Sender → List Seen → List Done → Option ℕ → Response → Type 0
Reports desk clock form seen all (Some code) response = IsNoted desk clock code form seen (said_of [] seen all) response
Reports desk clock form seen all None response = IsTakenAnswer clock form (list_any is_taken all) response

-- the form was carried out at the gateways, and these are the orders that outboxes have taken in, each once
pub record IsCommanded (desk : DeskView) (clock : ℕ) (form : Sender) (taken : List PostedView) (response : Response)
    : Type 0 where
  pub seen : List Seen
  pub all : List Done
  pub at : map seen_place seen ≡ desk.places
  pub each : AreDone clock form seen all
  pub taken_are : taken ≡ posted_in all
  pub reported : Reports desk clock form seen all (first_code all) response

-- the answer to a form that isn't admitted; for one that was sent before it is the way to this page
abbrev pub IsFaultAnswer : List ℕ → AdmitFault → Response → Type 0
IsFaultAnswer page (admit.Refused Repeated) response = IsSentTo page response
IsFaultAnswer page fault response = IsRefusedWith (admitted.status_of fault) response

-- the form of a request that is admitted, or why it isn't, where these forms were sent before
abbrev pub IsTested : Guard → ℕ → Request (List ℕ) → Result Sender AdmitFault → Type 0
IsTested guard clock request (Ok form) = (sent : List SentForm) × IsAdmitted guard sent request clock form
IsTested guard clock request (Err fault) = (sent : List SentForm) × IsRefused guard sent request clock fault

-- what is answered to the form that a request is admitted with, or to why it isn't: no outbox takes in anything then
abbrev pub IsAnswerTo : DeskView → ℕ → Request (List ℕ) → Result Sender AdmitFault → List PostedView → Response → Type 0
IsAnswerTo desk clock request (Ok form) taken response = IsCommanded desk clock form taken response
IsAnswerTo desk clock request (Err fault) taken response =
    (taken ≡ []) × IsFaultAnswer (link_of (fields_of (body_of request))) fault response

-- what is answered, where outboxes have taken in these orders for it
abbrev pub IsCommandAnswer : DeskView → ℕ → Request (List ℕ) → List PostedView → Response → Type 0
IsCommandAnswer desk clock request taken response =
    (tested : Result Sender AdmitFault) × IsTested desk.guard clock request tested
    × IsAnswerTo desk clock request tested taken response
