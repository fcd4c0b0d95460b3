-- What makes an object urgent, the order of objects by it, and their counts. Own rules.
use Rattle.std.specs.Prelude.{ℕ, ◌+◌, Bool, true, false, ◌==◌, ◌&&◌, not, nat_lt, if◌then◌else◌, List, length, count_by}
use Rattle.gate_model.specs.declared.state.State.{State}
use Rattle.gate_model.specs.declared.state.State.TheVariants.{Pending, Ok, Warning, Critical, Unknown, Up, Down, Unreachable}
use Rattle.gate_model.specs.State.{is_problem, is_same_state}
use Rattle.status_reading.specs.declared.rows.ShownAcknowledgement.{ShownAcknowledgement}
use Rattle.status_reading.specs.declared.rows.ShownAcknowledgement.TheVariants.{Missing, Normal, Sticky}
use Rattle.status_merge.specs.declared.gateway.MergedObject.{MergedObject}
use Rattle.status_merge.specs.declared.counts.Counts.{Counts}

-- whether there is an acknowledgement
abbrev pub is_made : ShownAcknowledgement → Bool
is_made Missing = false
is_made Normal = true
is_made Sticky = true

-- a problem without an acknowledgement and in no downtime, of a host, or of a service whose host is neither DOWN nor
-- UNREACHABLE nor in downtime
abbrev pub is_unhandled : MergedObject → Bool
is_unhandled object =
    is_problem object.row.state && not (is_made object.row.acknowledgement) && (object.row.depth == 0)
    && not object.host_is_out

-- the rank of a problem among problems: DOWN and CRITICAL, UNREACHABLE, UNKNOWN, WARNING
abbrev pub severity : State → ℕ
severity Down = 0
severity Critical = 0
severity Unreachable = 1
severity Unknown = 2
severity Warning = 3
severity Pending = 3
severity Ok = 3
severity Up = 3

-- unhandled problems 0 to 3, stale objects that are no problem 4, handled problems 5 to 8, PENDING 9, OK and UP 10
abbrev pub rank : MergedObject → ℕ
rank object =
    if is_unhandled object then severity object.row.state
    else if is_problem object.row.state then severity object.row.state + 5
    else if object.row.stale then 4
    else if is_same_state object.row.state Pending then 9
    else 10

-- whether an object is a host, or a service, in a state
abbrev pub is_host_in : State → MergedObject → Bool
is_host_in state object = is_same_state object.row.state state && (length object.row.service.now == 0)

abbrev pub is_service_in : State → MergedObject → Bool
is_service_in state object = is_same_state object.row.state state && not (length object.row.service.now == 0)

-- how many objects are hosts, or services, in a state
abbrev pub hosts_in : State → List MergedObject → ℕ
hosts_in state objects = count_by (is_host_in state) objects

abbrev pub services_in : State → List MergedObject → ℕ
services_in state objects = count_by (is_service_in state) objects

-- the counts of objects: by kind and state, and by mark
abbrev pub counts_of : List MergedObject → Counts
counts_of objects = record {
  up = hosts_in Up objects;
  down = hosts_in Down objects;
  unreachable = hosts_in Unreachable objects;
  host_pending = hosts_in Pending objects;
  ok = services_in Ok objects;
  warning = services_in Warning objects;
  critical = services_in Critical objects;
  unknown = services_in Unknown objects;
  service_pending = services_in Pending objects;
  stale = count_by (λ object. object.row.stale) objects;
  unhandled = count_by is_unhandled objects;
  acknowledged = count_by (λ object. is_made object.row.acknowledgement) objects;
  in_downtime = count_by (λ object. nat_lt 0 object.row.depth) objects;
  objects = length objects;
}
