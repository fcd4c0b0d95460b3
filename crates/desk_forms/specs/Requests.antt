-- The request of a form on a page: `request_of`, by its fields. None stands for a request that there is not. Own rules:
-- the names of the fields and of the actions.
use Rattle.std.specs.Prelude.{◌≡◌, ◌⊎◌, ℕ, Bool, false, ◌==◌, ◌&&◌, if◌then◌else◌, List, [], ◌∷◌, length, find, Option, Some, None, option_map, is_some, unwrap_or, codes}
use Rattle.std.specs.List.{list_any}
use Rattle.std.specs.Str.{bytes_eq}
use Rattle.gate_grammar.specs.Numbers.{number_of}
use Rattle.status_reading.specs.Plain.{plain_bytes}
use Rattle.status_reading.specs.Rows.{ObjectView, CommentView, DowntimeView, PageView}
use Rattle.operator_commands.specs.declared.request.Object.{Object}
use Rattle.operator_commands.specs.declared.request.Remark.{Remark}
use Rattle.operator_commands.specs.declared.request.Window.{Window}
use Rattle.operator_commands.specs.declared.request.Request.{Request}
use Rattle.operator_commands.specs.declared.request.Request.TheVariants as request
use Rattle.desk_forms.specs.declared.fields.Field.{Field}
use Rattle.desk_forms.specs.declared.requests.Action.{Action}
use Rattle.desk_forms.specs.declared.requests.Action.TheVariants.{Acknowledge, Unacknowledge, Comment, Uncomment, Downtime, Cancel, Passive}
use Rattle.desk_forms.specs.declared.requests.FormFault.{FormFault}
use Rattle.desk_forms.specs.declared.requests.FormFault.TheVariants as fault
use Rattle.desk_forms.specs.Fields.{given}
use Rattle.desk_forms.specs.Moments.{◌>>=◌, time_of}

-- there is no such value, or memory ran out
abbrev pub IsMissing : {A : Type 0} → Option A → FormFault → Type 0
IsMissing wanted given = (given ≡ fault.OutOfMemory) ⊎ (wanted ≡ None)

-- the action of a word
abbrev pub action_of : List ℕ → Option Action
action_of word =
    if bytes_eq word (codes "acknowledge") then Some Acknowledge
    else if bytes_eq word (codes "unacknowledge") then Some Unacknowledge
    else if bytes_eq word (codes "comment") then Some Comment
    else if bytes_eq word (codes "uncomment") then Some Uncomment
    else if bytes_eq word (codes "downtime") then Some Downtime
    else if bytes_eq word (codes "cancel") then Some Cancel
    else if bytes_eq word (codes "passive") then Some Passive
    else None

-- the row is of this host and service; a host's row has an empty service
abbrev pub is_row : List ℕ → List ℕ → ObjectView → Bool
is_row host service row = bytes_eq row.host host && bytes_eq row.service service

-- the object of a row
abbrev pub object_of : ObjectView → Object
object_of row = record {
  host = plain_bytes row.host;
  service = if length row.service == 0 then None else Some (plain_bytes row.service);
}

-- the object that a form names
abbrev pub object_on : PageView → List Field → Option Object
object_on page fields =
    option_map object_of
    (find
    (is_row (unwrap_or (given (codes "host") fields) []) (unwrap_or (given (codes "service") fields) []))
    page.objects)

-- what a form says of it; no field names an author
abbrev pub remark_in : List Field → Option Remark
remark_in fields = option_map (λ text. record { text = text; author = None }) (given (codes "text") fields)

-- the window of downtime of a form
abbrev pub window_in : List Field → Window
window_in fields = record {
  lasts = given (codes "for") fields;
  until = option_map time_of (given (codes "until") fields);
  from = option_map time_of (given (codes "from") fields);
  flexible = given (codes "flexible") fields;
  trigger = None;
}

-- a comment, or a downtime entry, of this id is shown
abbrev pub shows_comment : ℕ → List CommentView → Bool
shows_comment id rows = list_any (λ (row : CommentView). row.id == id) rows

abbrev pub shows_downtime : ℕ → List DowntimeView → Bool
shows_downtime id rows = list_any (λ (row : DowntimeView). row.id == id) rows

-- whether a box is checked
abbrev pub is_checked : List ℕ → List Field → Bool
is_checked name fields = is_some (given name fields)

-- the request of a form for this action
abbrev pub request_for : Action → PageView → List Field → Option Request
request_for Acknowledge page fields = do
  object ← object_on page fields
  remark ← remark_in fields
  Some (request.Ack object remark (is_checked (codes "sticky") fields) (is_checked (codes "persistent") fields))
request_for Unacknowledge page fields = do
  object ← object_on page fields
  Some (request.Unack object)
request_for Comment page fields = do
  object ← object_on page fields
  remark ← remark_in fields
  Some (request.Comment object remark (is_checked (codes "persistent") fields))
request_for Uncomment page fields = do
  word ← given (codes "id") fields
  id ← number_of word
  if shows_comment id page.comments then Some (request.Uncomment (word ∷ []) false) else None
request_for Downtime page fields = do
  object ← object_on page fields
  remark ← remark_in fields
  Some (request.Downtime object remark (window_in fields) (is_checked (codes "services") fields))
request_for Cancel page fields = do
  word ← given (codes "id") fields
  id ← number_of word
  if shows_downtime id page.downtimes then Some (request.Cancel (word ∷ [])) else None
request_for Passive page fields = do
  object ← object_on page fields
  setting ← given (codes "setting") fields
  Some (request.Passive setting object)

-- the request of a form
abbrev pub request_of : PageView → List Field → Option Request
request_of page fields = do
  action ← action_of (unwrap_or (given (codes "action") fields) [])
  request_for action page fields

-- the status of the answer where a form asks for no command: Bad Request, Not Found or Service Unavailable
abbrev pub status_of : FormFault → ℕ
status_of fault.NoAction = 400
status_of fault.NoText = 400
status_of fault.NoMarks = 400
status_of fault.TooManyMarks = 400
status_of (fault.Request cause) = 400
status_of fault.NoObject = 404
status_of fault.NoEntry = 404
status_of fault.OutOfMemory = 503
