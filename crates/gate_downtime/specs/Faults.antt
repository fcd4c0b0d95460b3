-- Why an entry isn't scheduled, and why none is deleted (Nagios Core 4 manual, Scheduled Downtime). Own rules: what is
-- refused, and the order of the tests.
use Rattle.std.specs.Prelude.{ℕ, not, ◌||◌, ◌==◌, nat_le, Result, Ok, Err, Option, Some, None, if◌then◌else◌}
use Rattle.gate_model.specs.declared.object.Kind.{Kind}
use Rattle.gate_model.specs.declared.object.ObjectId.{ObjectId}
use Rattle.gate_model.specs.declared.downtime.Plan.{Plan}
use Rattle.gate_model.specs.Meaning.{is_same_kind, object_of_entry}
use Rattle.gate_downtime.specs.declared.faults.ScheduleFault.{ScheduleFault}
use Rattle.gate_downtime.specs.declared.faults.ScheduleFault.TheVariants.{BadWindow, WindowPast, NoSuchTrigger, IdsSpent}
use Rattle.gate_downtime.specs.declared.faults.CancelFault.{CancelFault}
use Rattle.gate_downtime.specs.declared.faults.CancelFault.TheVariants.{NoSuchDowntime, WrongKind}
use Rattle.gate_downtime.specs.Book.{DowntimeView, next_id, is_live_now}

-- the answer to a schedule: the id, unless the window is empty, the window is over, the trigger is no live entry, or
-- the last id, 4294967295, was given
abbrev pub scheduling_of : Plan → DowntimeView → Result ℕ ScheduleFault
scheduling_of plan book =
    if nat_le plan.ends.0 plan.starts.0 then Err BadWindow
    else (if nat_le plan.ends.0 book.moment.0 then Err WindowPast
    else (if not ((plan.trigger == 0) || is_live_now book plan.trigger) then Err NoSuchTrigger
    else (if nat_le 4294967296 (next_id book) then Err IdsSpent
    else Ok (next_id book))))

-- the answer to a deletion of a live entry of this object, or of none, by a command for objects of this kind
abbrev pub cancellation_of : Kind → Option ObjectId → Result (Unit {0}) CancelFault
cancellation_of kind None = Err NoSuchDowntime
cancellation_of kind (Some object) = if is_same_kind kind object.kind then Ok tt else Err WrongKind

-- the answer to a deletion of the entry of this id
abbrev pub cancellation_by_id : Kind → ℕ → DowntimeView → Result (Unit {0}) CancelFault
cancellation_by_id kind id book = cancellation_of kind (object_of_entry (is_live_now book) id book.entries)
