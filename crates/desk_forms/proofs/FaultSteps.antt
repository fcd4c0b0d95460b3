-- Where a form is refused for an object or an entry that the page doesn't show, that is what it lacks.
use Rattle.std.proofs.Common.{◌≡◌, Option, Some, None, option_map, inl, inr}
use Rattle.gate_model.specs.declared.record.Moment.{Moment}
use Rattle.status_reading.specs.Rows.{PageView}
use Rattle.operator_effects.specs.declared.commands.PlanFault.{PlanFault}
use Rattle.operator_effects.specs.declared.commands.PlanFault.TheVariants as plan
use Rattle.desk_forms.specs.declared.requests.FormFault.{FormFault}
use Rattle.desk_forms.specs.declared.requests.FormFault.TheVariants as fault
use Rattle.desk_forms.specs.Sender.{Sender}
use Rattle.desk_forms.specs.Faults.{first_fault, form_fault, IsFormFault}

-- a request has no such fault
no_such : (wrong : Option PlanFault) (why : FormFault) → ((given : PlanFault) → form_fault given ≡ why → ⊥)
    → option_map form_fault wrong ≡ Some why → ⊥
no_such None why other is = cc
no_such (Some given) why other is = other given cc

no_object : (given : PlanFault) → form_fault given ≡ fault.NoObject → ⊥
no_object (plan.Request cause) same = cc
no_object plan.NoObject same = cc
no_object plan.OutOfMemory same = cc

no_entry : (given : PlanFault) → form_fault given ≡ fault.NoEntry → ⊥
no_entry (plan.Request cause) same = cc
no_entry plan.NoObject same = cc
no_entry plan.OutOfMemory same = cc

pub no_object_lacks : (page : PageView) (now : Moment) (form : Sender) → IsFormFault page now form fault.NoObject
    → first_fault page form.fields ≡ Some fault.NoObject
no_object_lacks page now form (inl (inl memory)) = cc
no_object_lacks page now form (inl (inr is)) = is
no_object_lacks page now form (inr (none, is)) = absurd (no_such _ fault.NoObject no_object is)

pub no_entry_lacks : (page : PageView) (now : Moment) (form : Sender) → IsFormFault page now form fault.NoEntry
    → first_fault page form.fields ≡ Some fault.NoEntry
no_entry_lacks page now form (inl (inl memory)) = cc
no_entry_lacks page now form (inl (inr is)) = is
no_entry_lacks page now form (inr (none, is)) = absurd (no_such _ fault.NoEntry no_entry is)
