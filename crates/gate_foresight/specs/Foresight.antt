-- The records of a gateway that applies these: `applied_from`. Own rule: a record is applied at its own moment, or at
-- that of the gateway where it is later, which is then that of the record.
use Rattle.std.specs.Prelude.{◌≡◌, List, [], ◌∷◌}
use Rattle.gate_model.specs.declared.record.Moment.{Moment}
use Rattle.gate_model.specs.declared.record.Record.{Record}
use Rattle.gate_model.specs.Record.{later}
use Rattle.gate_applier.specs.Applier.{ApplierView}

-- the record, as a gateway at this moment applies it
abbrev pub applied_at : Moment → Record → Record
applied_at moment applied = record applied { moment = later moment applied.moment }

-- the records, as a gateway at this moment applies them
abbrev pub applied_from : Moment → List Record → List Record
applied_from moment [] = []
applied_from moment (applied ∷ records) =
    applied_at moment applied ∷ applied_from (later moment applied.moment) records

-- the moment of such a gateway after them: the latest of all
abbrev pub moment_after : Moment → List Record → Moment
moment_after moment [] = moment
moment_after moment (applied ∷ records) = moment_after (later moment applied.moment) records

-- an applier of the same objects, opened at the same moment
abbrev pub IsOpenedAlike : ApplierView → ApplierView → Type 0
IsOpenedAlike one other = (other.table ≡ one.table) × (other.opening ≡ one.opening)
