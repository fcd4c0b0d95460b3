-- Why a form asks for no command on a page (`first_fault`, `request_fault`, `IsFormFault`), and the words for it (`words_of`). Own rules.
use Rattle.std.specs.Prelude.{◌≡◌, ◌⊎◌, ℕ, List, [], Option, Some, None, option_map, option_and_then, unwrap_or, codes}
use Rattle.gate_model.specs.declared.record.Moment.{Moment}
use Rattle.status_reading.specs.Rows.{PageView}
use Rattle.operator_commands.specs.declared.bodies.RequestFault.{RequestFault}
use Rattle.operator_commands.specs.declared.bodies.RequestFault.TheVariants.{BadState, BadSetting, ServicesOfService, BadTime, BadSpan, BadId, NoEnd, NoCommand}
use Rattle.operator_effects.specs.declared.commands.PlanFault.{PlanFault}
use Rattle.operator_effects.specs.declared.commands.PlanFault.TheVariants as plan
use Rattle.operator_effects.specs.Commands as commands
use Rattle.desk_forms.specs.declared.fields.Field.{Field}
use Rattle.desk_forms.specs.declared.requests.Action.{Action}
use Rattle.desk_forms.specs.declared.requests.Action.TheVariants.{Acknowledge, Unacknowledge, Comment, Uncomment, Downtime, Cancel, Passive}
use Rattle.desk_forms.specs.declared.requests.FormFault.{FormFault}
use Rattle.desk_forms.specs.declared.requests.FormFault.TheVariants as fault
use Rattle.desk_forms.specs.Fields.{given}
use Rattle.desk_forms.specs.Sender.{Sender}
use Rattle.desk_forms.specs.Requests.{action_of, object_on, remark_in, request_for, request_of}

-- the fault where this value is missing, and otherwise what is next
abbrev pub needing : {A : Type 0} → Option A → FormFault → Option FormFault → Option FormFault
needing None missing next = Some missing
needing (Some value) missing next = next

-- an object that the page shows, and for some actions a comment of the user's
abbrev pub object_fault : PageView → List Field → Option FormFault
object_fault page fields = needing (object_on page fields) fault.NoObject None

abbrev pub remark_fault : PageView → List Field → Option FormFault
remark_fault page fields =
    needing (object_on page fields) fault.NoObject (needing (remark_in fields) fault.NoText None)

-- the first of what a form for this action lacks
abbrev pub fault_for : Action → PageView → List Field → Option FormFault
fault_for Acknowledge page fields = remark_fault page fields
fault_for Unacknowledge page fields = object_fault page fields
fault_for Comment page fields = remark_fault page fields
fault_for Uncomment page fields = needing (request_for Uncomment page fields) fault.NoEntry None
fault_for Downtime page fields = remark_fault page fields
fault_for Cancel page fields = needing (request_for Cancel page fields) fault.NoEntry None
fault_for Passive page fields =
    needing (object_on page fields) fault.NoObject
    (needing (given (codes "setting") fields) (fault.Request BadSetting) None)

-- the first of what a form lacks
abbrev pub first_fault : PageView → List Field → Option FormFault
first_fault page fields = elim (action_of (unwrap_or (given (codes "action") fields) [])) [
  | Some action ↦ fault_for action page fields
  | None ↦ Some fault.NoAction
]

-- the fault is this one, or memory ran out
abbrev pub IsFirst : Option FormFault → FormFault → Type 0
IsFirst first given = (given ≡ fault.OutOfMemory) ⊎ (first ≡ Some given)

-- the fault of a form whose request has this one
abbrev pub form_fault : PlanFault → FormFault
form_fault (plan.Request cause) = fault.Request cause
form_fault plan.NoObject = fault.Request NoCommand
form_fault plan.OutOfMemory = fault.OutOfMemory

-- the first fault of the form's request, which its user asks for now
abbrev pub request_fault : PageView → Moment → Sender → Option FormFault
request_fault page now form =
    option_map form_fault (option_and_then (commands.first_fault now form.user) (request_of page form.fields))

-- why a form asks for no command: what it lacks, or else the fault of its request
abbrev pub IsFormFault : PageView → Moment → Sender → FormFault → Type 0
IsFormFault page now form given =
    IsFirst (first_fault page form.fields) given
    ⊎ ((first_fault page form.fields ≡ None) × (request_fault page now form ≡ Some given))

-- ---- the words

abbrev pub request_words : RequestFault → List ℕ
request_words BadSetting = codes "passive checks are on or off"
request_words ServicesOfService = codes "only a host has services"
request_words BadTime = codes "a time is as 2026-11-23T20:15 in UTC, or in seconds since 1970"
request_words BadSpan = codes "a span is a number with s, m, h or d, as 90m"
request_words NoEnd = codes "downtime ends after a span or at a moment: give one of them"
request_words BadState = codes "the form asks for no command"
request_words BadId = codes "the form asks for no command"
request_words NoCommand = codes "the form asks for no command"

abbrev pub words_of : FormFault → List ℕ
words_of fault.NoAction = codes "the form names no action"
words_of fault.NoObject = codes "the page doesn't show this object"
words_of fault.NoText = codes "the comment is missing"
words_of fault.NoEntry = codes "the page doesn't show this entry"
words_of fault.NoMarks = codes "the form marks no object"
words_of fault.TooManyMarks = codes "the form marks more than 256 objects"
words_of (fault.Request cause) = request_words cause
words_of fault.OutOfMemory = codes "out of memory"
