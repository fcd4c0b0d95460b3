-- A form that was sent before: `is_repeated`.
use Rattle.std.specs.Prelude.{Bool, true, false}
use Rattle.desk_guard.specs.declared.refusal.Refusal.TheVariants.{Repeated}
use Rattle.desk_forms.specs.declared.admitting.AdmitFault.{AdmitFault}
use Rattle.desk_forms.specs.declared.admitting.AdmitFault.TheVariants.{Refused}

abbrev pub is_repeated : AdmitFault → Bool
is_repeated (Refused Repeated) = true
is_repeated other = false
