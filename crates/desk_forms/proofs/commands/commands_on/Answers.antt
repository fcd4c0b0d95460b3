use Rattle.std.proofs.Common.{◌≡◌, ◌≢◌, ℕ, List, Some, ◌∙◌, subst}
use Rattle.std.specs.List.{AllByRecursion}
use Rattle.status_reading.specs.Rows.{page_view}
use Rattle.operator_effects.specs.declared.commands.PlanFault.TheVariants as plan
use Rattle.operator_effects.specs.Commands as commands
use Rattle.desk_forms.specs.declared.fields.Field.{Field}
use Rattle.desk_forms.specs.Requests.{request_of}
use Rattle.desk_forms.specs.Offers.{IsAllowed}
use Rattle.desk_forms.proofs.OfferSteps.{allowed, one_command}
use Rattle.desk_forms.proofs.RequestSteps.{faulty_form}
use Rattle.desk_forms.proofs.commands.commands_on.Goals as goal

pub returns-in-Ok-clause-allowed : goal.returns-in-Ok-clause-allowed
returns-in-Ok-clause-allowed c =
    let page = page_view c.args.page.now in
    let same = c.in_ok-user.ensures ∙ c.bytes.ensures ∙ c.user.ensures in
    subst (λ (name : List ℕ). AllByRecursion (IsAllowed page name) c.in-Ok.bodies.items) same
    (allowed page c.in_ok-user.user c.args.now c.in_ok-request.request c.in-Ok.bodies.items c.in_ok-request.ensures.offered
    c.in-Ok.ensures.bodies)

pub returns-in-Ok-clause-one : goal.returns-in-Ok-clause-one
returns-in-Ok-clause-one c =
    one_command (page_view c.args.page.now) c.in_ok-user.user c.args.now c.in_ok-request.request c.in-Ok.bodies.items
    c.in_ok-request.ensures.offered c.in-Ok.ensures.bodies

pub returns-in-Err-Request-clause-refused : goal.returns-in-Err-Request-clause-refused
returns-in-Err-Request-clause-refused c =
    let page = page_view c.args.page.now in
    let asked = c.in_ok-request.request in
    let found = c.in-Err-Request.field-0 in
    let user = c.in_ok-user.ensures ∙ c.bytes.ensures ∙ c.user.ensures in
    faulty_form page c.args.now c.args.form.now asked found (plan.Request c.in-Err-Request.fault)
    (subst (λ (fields : List Field). request_of page fields ≡ Some asked) c.fields.ensures c.in_ok-request.ensures.request)
    c.in-Err-Request.field-0-is (λ same. cc)
    (subst (λ (user : List ℕ). found ≢ plan.OutOfMemory → commands.first_fault c.args.now user asked ≡ Some found) user
    c.in-Err-Request.ensures.fault)

pub returns-in-Err-NoObject-clause-refused : goal.returns-in-Err-NoObject-clause-refused
returns-in-Err-NoObject-clause-refused c =
    let page = page_view c.args.page.now in
    let asked = c.in_ok-request.request in
    let found = c.in-Err-NoObject.field-0 in
    let user = c.in_ok-user.ensures ∙ c.bytes.ensures ∙ c.user.ensures in
    faulty_form page c.args.now c.args.form.now asked found plan.NoObject
    (subst (λ (fields : List Field). request_of page fields ≡ Some asked) c.fields.ensures c.in_ok-request.ensures.request)
    c.in-Err-NoObject.field-0-is (λ same. cc)
    (subst (λ (user : List ℕ). found ≢ plan.OutOfMemory → commands.first_fault c.args.now user asked ≡ Some found) user
    c.in-Err-NoObject.ensures.fault)
