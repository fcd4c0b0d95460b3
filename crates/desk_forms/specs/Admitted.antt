-- The form of a request that is admitted (`IsAdmitted`), and why one is not (`IsRefused`).
use Rattle.std.specs.Prelude.{◌≡◌, ℕ, List, [], Some, None, unwrap_or, codes}
use Rattle.http.specs.declared.request.Request.{Request}
use Rattle.http.specs.Request.{body_of}
use Rattle.desk_guard.specs.declared.guard.Guard.{Guard}
use Rattle.desk_guard.specs.declared.sent.SentForm.{SentForm}
use Rattle.desk_guard.specs.Refusal as refusal
use Rattle.desk_guard.specs.Tests.{first_failed, Refuses}
use Rattle.desk_guard.specs.Guard.{user_of, tests_of}
use Rattle.desk_forms.specs.declared.fields.FieldsFault.TheVariants.{TooLong, NotUtf8, Twice, OutOfMemory}
use Rattle.desk_forms.specs.declared.admitting.AdmitFault.{AdmitFault}
use Rattle.desk_forms.specs.declared.admitting.AdmitFault.TheVariants.{Form, Refused}
use Rattle.desk_forms.specs.Fields.{given, fields_of, IsForm, IsFaultOf}
use Rattle.desk_forms.specs.Sender.{Sender}

-- the token of a request's form
abbrev pub token_of : Request (List ℕ) → List ℕ
token_of request = unwrap_or (given (codes "token") (fields_of (body_of request))) []

-- the body is a form, these are its fields and its user, and the request passes each test
pub record IsAdmitted (guard : Guard) (sent : List SentForm) (request : Request (List ℕ)) (now : ℕ) (form : Sender)
    : Type 0 where
  pub is_form : IsForm (body_of request)
  pub fields : form.fields ≡ fields_of (body_of request)
  pub user : user_of guard request ≡ Some form.user
  pub passed : first_failed (tests_of guard sent request (token_of request) now) ≡ None

-- why a request is not admitted: its body is no form, or it fails a test
abbrev pub IsRefused : Guard → List SentForm → Request (List ℕ) → ℕ → AdmitFault → Type 0
IsRefused guard sent request now (Form fault) = IsFaultOf (body_of request) fault
IsRefused guard sent request now (Refused given) = Refuses (tests_of guard sent request (token_of request) now) given

-- the status of the answer: Content Too Large, Bad Request, Service Unavailable, or the refusal's
abbrev pub status_of : AdmitFault → ℕ
status_of (Form TooLong) = 413
status_of (Form NotUtf8) = 400
status_of (Form Twice) = 400
status_of (Form OutOfMemory) = 503
status_of (Refused given) = refusal.status_of given
