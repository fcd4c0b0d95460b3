-- What a form lacks, and the request that it asks for where it lacks nothing, with that one's fault.
use Rattle.std.proofs.Common.{◌≡◌, List, [], codes, unwrap_or, Option, Some, None, option_map, refl, sym, ap, ◌∙◌, inl, inr}
use Rattle.std.specs.Prelude.{◌≢◌, option_and_then}
use Rattle.gate_model.specs.declared.record.Moment.{Moment}
use Rattle.status_reading.specs.Rows.{PageView}
use Rattle.operator_commands.specs.declared.request.Request.{Request}
use Rattle.operator_effects.specs.declared.commands.PlanFault.{PlanFault}
use Rattle.operator_effects.specs.declared.commands.PlanFault.TheVariants as plan
use Rattle.operator_effects.specs.Commands as commands
use Rattle.desk_forms.specs.declared.fields.Field.{Field}
use Rattle.desk_forms.specs.declared.requests.Action.{Action}
use Rattle.desk_forms.specs.declared.requests.Action.TheVariants.{Acknowledge, Unacknowledge, Comment, Uncomment, Downtime, Cancel, Passive}
use Rattle.desk_forms.specs.declared.requests.FormFault.{FormFault}
use Rattle.desk_forms.specs.declared.requests.FormFault.TheVariants as faults
use Rattle.desk_forms.specs.Fields.{given}
use Rattle.desk_forms.specs.Moments.{◌>>=◌}
use Rattle.desk_forms.specs.Requests.{action_of, object_on, remark_in, request_for, request_of, IsMissing}
use Rattle.desk_forms.specs.Sender.{Sender}
use Rattle.desk_forms.specs.Faults.{needing, fault_for, first_fault, IsFirst, form_fault, IsFormFault}

-- a fault of the first that is needed
pub first_needs : {A : Type 0} (value : Option A) (missing fault : FormFault) (next : Option FormFault)
    → IsFirst (needing value missing None) fault → IsFirst (needing value missing next) fault
first_needs value missing fault next (inl memory) = inl memory
first_needs None missing fault next (inr is) = inr is
first_needs (Some one) missing fault next (inr is) = cc

-- a fault of what is needed next
pub next_needs : {A : Type 0} (value : Option A) (missing fault : FormFault) (next : Option FormFault) (found : A)
    → value ≡ Some found → IsFirst next fault → IsFirst (needing value missing next) fault
next_needs value missing fault next found is first = rw is first

-- ---- no request where something is lacking

none_needed : {A B : Type 0} (value : Option A) (missing fault : FormFault) (next : Option FormFault) (then : A → Option B)
    → ((one : A) → next ≡ Some fault → then one ≡ None)
    → needing value missing next ≡ Some fault → (value >>= then) ≡ None
none_needed None missing fault next then each is = refl
none_needed (Some one) missing fault next then each is = each one is

none_there : {A : Type 0} (value : Option A) (missing fault : FormFault)
    → needing value missing None ≡ Some fault → value ≡ None
none_there None missing fault is = refl
none_there (Some one) missing fault is = cc

no_request : (action : Action) (page : PageView) (fields : List Field) (fault : FormFault)
    → fault_for action page fields ≡ Some fault → request_for action page fields ≡ None
no_request Acknowledge page fields fault is =
    none_needed (object_on page fields) _ fault _ _ (λ object. none_needed (remark_in fields) _ fault _ _ (λ remark none. cc)) is
no_request Unacknowledge page fields fault is = none_needed (object_on page fields) _ fault _ _ (λ object none. cc) is
no_request Comment page fields fault is =
    none_needed (object_on page fields) _ fault _ _ (λ object. none_needed (remark_in fields) _ fault _ _ (λ remark none. cc)) is
no_request Uncomment page fields fault is = none_there (request_for Uncomment page fields) _ fault is
no_request Downtime page fields fault is =
    none_needed (object_on page fields) _ fault _ _ (λ object. none_needed (remark_in fields) _ fault _ _ (λ remark none. cc)) is
no_request Cancel page fields fault is = none_there (request_for Cancel page fields) _ fault is
no_request Passive page fields fault is =
    none_needed (object_on page fields) _ fault _ _
    (λ object. none_needed (given (codes "setting") fields) _ fault _ _ (λ setting none. cc)) is

none_by : (action : Option Action) (page : PageView) (fields : List Field) (fault : FormFault)
    → elim action [ Some action ↦ fault_for action page fields | None ↦ Some faults.NoAction ] ≡ Some fault
    → (action >>= (λ action. request_for action page fields)) ≡ None
none_by None page fields fault is = refl
none_by (Some action) page fields fault is = no_request action page fields fault is

pub missing : (page : PageView) (fields : List Field) (fault : FormFault)
    → IsFirst (first_fault page fields) fault → IsMissing (request_of page fields) fault
missing page fields fault (inl memory) = inl memory
missing page fields fault (inr is) =
    inr (none_by (action_of (unwrap_or (given (codes "action") fields) [])) page fields fault is)

-- ---- nothing is lacking where there is a request

some_needed : {A B : Type 0} (value : Option A) (missing : FormFault) (next : Option FormFault) (then : A → Option B) (asked : B)
    → ((one : A) → then one ≡ Some asked → next ≡ None)
    → (value >>= then) ≡ Some asked → needing value missing next ≡ None
some_needed None missing next then asked each is = cc
some_needed (Some one) missing next then asked each is = each one is

some_there : {A : Type 0} (value : Option A) (missing : FormFault) (found : A) → value ≡ Some found
    → needing value missing None ≡ None
some_there value missing found is = rw is refl

no_fault : (action : Action) (page : PageView) (fields : List Field) (asked : Request)
    → request_for action page fields ≡ Some asked → fault_for action page fields ≡ None
no_fault Acknowledge page fields asked is =
    some_needed (object_on page fields) _ _ _ asked (λ object. some_needed (remark_in fields) _ _ _ asked (λ remark made. refl)) is
no_fault Unacknowledge page fields asked is = some_needed (object_on page fields) _ _ _ asked (λ object made. refl) is
no_fault Comment page fields asked is =
    some_needed (object_on page fields) _ _ _ asked (λ object. some_needed (remark_in fields) _ _ _ asked (λ remark made. refl)) is
no_fault Uncomment page fields asked is = some_there (request_for Uncomment page fields) _ asked is
no_fault Downtime page fields asked is =
    some_needed (object_on page fields) _ _ _ asked (λ object. some_needed (remark_in fields) _ _ _ asked (λ remark made. refl)) is
no_fault Cancel page fields asked is = some_there (request_for Cancel page fields) _ asked is
no_fault Passive page fields asked is =
    some_needed (object_on page fields) _ _ _ asked
    (λ object. some_needed (given (codes "setting") fields) _ _ _ asked (λ setting made. refl)) is

fault_by : (action : Option Action) (page : PageView) (fields : List Field) (asked : Request)
    → (action >>= (λ action. request_for action page fields)) ≡ Some asked
    → ◌≡◌ {A = Option FormFault} (elim action [ Some action ↦ fault_for action page fields | None ↦ Some faults.NoAction ]) None
fault_by None page fields asked is = cc
fault_by (Some action) page fields asked is = no_fault action page fields asked is

pub nothing_lacks : (page : PageView) (fields : List Field) (asked : Request)
    → request_of page fields ≡ Some asked → first_fault page fields ≡ None
nothing_lacks page fields asked is =
    fault_by (action_of (unwrap_or (given (codes "action") fields) [])) page fields asked is

-- a fault of its request is the form's
pub faulty_form : (page : PageView) (now : Moment) (form : Sender) (asked : Request) (found given : PlanFault)
    → request_of page form.fields ≡ Some asked → found ≡ given → (given ≡ plan.OutOfMemory → ⊥)
    → (found ≢ plan.OutOfMemory → commands.first_fault now form.user asked ≡ Some found)
    → IsFormFault page now form (form_fault given)
faulty_form page now form asked found given is same ample faulty =
    let first : commands.first_fault now form.user asked ≡ Some given = faulty (λ memory. ample (sym same ∙ memory)) ∙ ap Some same in
    inr (
      nothing_lacks page form.fields asked is,
      ap (λ (request : Option Request). option_map form_fault (option_and_then (commands.first_fault now form.user) request)) is
          ∙ ap (option_map form_fault) first,
    )
