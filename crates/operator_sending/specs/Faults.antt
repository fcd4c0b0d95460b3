-- What is reported of a request that isn't carried out (`IsRequestFault`), and of a line that isn't printed. Own rules.
use Rattle.std.specs.Prelude.{◌≡◌, ℕ, List, Some}
use Rattle.gate_model.specs.declared.record.Moment.{Moment}
use Rattle.operator_commands.specs.declared.request.Request.{Request}
use Rattle.operator_effects.specs.declared.commands.PlanFault.{PlanFault}
use Rattle.operator_effects.specs.declared.commands.PlanFault.TheVariants as plans
use Rattle.operator_effects.specs.Commands.{first_fault}
use Rattle.operator_setup.specs.declared.fault.ControlFault.{ControlFault}
use Rattle.operator_setup.specs.declared.fault.ControlFault.TheVariants as control

-- the fault that reports it
abbrev pub fault_of : PlanFault → ControlFault
fault_of (plans.Request fault) = control.Request fault
fault_of plans.NoObject = control.NoObject
fault_of plans.OutOfMemory = control.OutOfMemory

-- the line can't be written, or memory ran out
abbrev pub IsPrintFault : ControlFault → Type 0
IsPrintFault control.WriteFault = Unit {0}
IsPrintFault control.OutOfMemory = Unit {0}
IsPrintFault _ = ⊥

-- at some clock, and for some user, this is the first fault of the words
abbrev pub IsOfWords : Request → PlanFault → Type 0
IsOfWords request fault = (entered : Moment) × (user : List ℕ) × (first_fault entered user request ≡ Some fault)

-- why a request isn't carried out on the text of a page: it has this fault, the text is no page, or a device fails
abbrev pub IsFaultOn : Request → ControlFault → Type 0
IsFaultOn request (control.Request fault) = IsOfWords request (plans.Request fault)
IsFaultOn request control.NoObject = IsOfWords request plans.NoObject
IsFaultOn request control.BadPage = Unit {0}
IsFaultOn request control.NoClock = Unit {0}
IsFaultOn request fault = IsPrintFault fault

-- the same where the text is that of the gateway's page: or there is none
abbrev pub IsRequestFault : Request → ControlFault → Type 0
IsRequestFault request (control.NoPage fault) = Unit {0}
IsRequestFault request fault = IsFaultOn request fault
