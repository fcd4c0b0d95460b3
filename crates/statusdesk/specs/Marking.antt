-- What is answered to a request for `/commands` (`IsCommandsAnswer`): it is refused, or its form is admitted, and for each
-- mark of it in order the form for that mark is carried out as at `/command`, and no other order is put into an outbox. Own
-- rules.
use Rattle.std.specs.Prelude.{◌≡◌, ◌⊎◌, ℕ, false, List, [], ◌∷◌, map, Option, Some, None, Result, Ok, Err, codes, if◌then◌else◌, unwrap_or, ⊤}
use Rattle.std.specs.declared.alloc.Global.{Global}
use Rattle.std.specs.Prelude.{Vec}
use Rattle.std.specs.List.{list_any}
use Rattle.http.specs.declared.request.Request.{Request}
use Rattle.http.specs.Request.{head_of}
use Rattle.http.specs.Uri.{uri_query}
use Rattle.http_server.specs.declared.response.Response.{Response}
use Rattle.page_watching.specs.declared.watching.Seen.{Seen}
use Rattle.page_watching.specs.Watching.{seen_place}
use Rattle.web_connections.specs.Answers.{IsSent}
use Rattle.desk_forms.specs.declared.admitting.AdmitFault.{AdmitFault}
use Rattle.desk_forms.specs.declared.requests.FormFault.{FormFault}
use Rattle.desk_forms.specs.Sender.{Sender}
use Rattle.desk_forms.specs.Marks.{marks_of, sender_for, IsMarksFault}
use Rattle.desk_forms.specs.Requests as requests
use Rattle.statusdesk.specs.declared.commanding.Done.{Done}
use Rattle.statusdesk.specs.Posted.{PostedView}
use Rattle.statusdesk.specs.Taking.{all_posted}
use Rattle.statusdesk.specs.Responses.{IsSentTo}
use Rattle.statusdesk.specs.Objects.{DeskView}
use Rattle.statusdesk.specs.Notes.{SaidView, note_of}
use Rattle.statusdesk.specs.Said.{is_taken, said_of_marks, said_of_fault}
use Rattle.statusdesk.specs.Commanding.{AreDone, first_code, IsFaultAnswer, IsTested}
use Rattle.statusdesk.specs.Marks.{marks_link, marks_after, IsMarksPage}

-- what became of the form for each of these marks, in their order, at the gateways
abbrev pub AreMarked : ℕ → Sender → List Seen → List (List ℕ) → List (List Done) → Type 0
AreMarked clock form seen [] [] = ⊤
AreMarked clock form seen (mark ∷ marks) (done ∷ all) =
    AreDone clock (sender_for mark form) seen done × AreMarked clock form seen marks all
AreMarked clock form seen marks all = ⊥

abbrev pub dones_in : List (Vec Done Global) → List (List Done)
dones_in all = map (λ (one : Vec Done Global). one.items) all

-- ---- the answer

-- the code for what became of a mark: that of the first gateway that didn't take it, or Not Found where no gateway is asked
abbrev pub mark_code : List Done → Option ℕ
mark_code all = elim (first_code all) [
  | Some code ↦ Some code
  | None ↦ if list_any is_taken all then None else Some 404
]

-- that of the first mark that has one
abbrev pub marks_code : List (List Done) → Option ℕ
marks_code [] = None
marks_code (all ∷ more) = elim (mark_code all) [ Some code ↦ Some code | None ↦ marks_code more ]

-- the page of many objects says this of the form
pub record IsMarksNoted (desk : DeskView) (clock code : ℕ) (seen : List Seen) (user query : List ℕ)
    (said : List SaidView) (response : Response)
    : Type 0 where
  pub body : List ℕ
  pub page : IsMarksPage desk clock seen user query (map note_of said) false body
  pub sent : IsSent code (codes "text/html; charset=utf-8") body response

-- the way to that page where each mark was taken by each gateway that shows its object, and otherwise that page, which says
-- this of the marks
abbrev pub ReportsMarks : DeskView → ℕ → List Seen → List ℕ → List ℕ → List SaidView → Option ℕ → Response → Type 0
ReportsMarks desk clock seen user query said (Some code) response =
    IsMarksNoted desk clock code seen user query said response
ReportsMarks desk clock seen user query said None response = IsSentTo (marks_after clock query) response

-- the form was carried out for its marks, and these are the orders that outboxes have taken in, each once
pub record AreCarriedOut (desk : DeskView) (clock : ℕ) (form : Sender) (seen : List Seen) (query : List ℕ)
    (taken : List PostedView) (response : Response) : Type 0 where
  pub all : List (List Done)
  pub each : AreMarked clock form seen (marks_of form.fields) all
  pub taken_are : taken ≡ all_posted all
  pub reported : ReportsMarks desk clock seen form.user query (said_of_marks seen (marks_of form.fields) all)
      (marks_code all) response

-- it was, or it has no marks that count, and then no outbox takes in anything
abbrev pub IsMarked : DeskView → ℕ → Sender → List ℕ → List PostedView → Response → Type 0
IsMarked desk clock form query taken response =
    (seen : List Seen) × (map seen_place seen ≡ desk.places)
    × (AreCarriedOut desk clock form seen query taken response
    ⊎ ((fault : FormFault) × IsMarksFault form.fields fault × (taken ≡ [])
    × IsMarksNoted desk clock (requests.status_of fault) seen form.user query (said_of_fault fault) response))

-- what is answered to the form that a request is admitted with, or to why it isn't: no outbox takes in anything then
abbrev pub IsMarksAnswerTo : DeskView → ℕ → List ℕ → Result Sender AdmitFault → List PostedView → Response → Type 0
IsMarksAnswerTo desk clock query (Ok form) taken response = IsMarked desk clock form query taken response
IsMarksAnswerTo desk clock query (Err fault) taken response =
    (taken ≡ []) × IsFaultAnswer (marks_link query) fault response

abbrev pub query_of : Request (List ℕ) → List ℕ
query_of request = unwrap_or (uri_query (head_of request).uri) []

-- what is answered, where outboxes have taken in these orders for it
abbrev pub IsCommandsAnswer : DeskView → ℕ → Request (List ℕ) → List PostedView → Response → Type 0
IsCommandsAnswer desk clock request taken response =
    (tested : Result Sender AdmitFault) × IsTested desk.guard clock request tested
    × IsMarksAnswerTo desk clock (query_of request) tested taken response
