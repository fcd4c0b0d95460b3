-- The states of monitored objects (Nagios Core 4 manual, Passive Checks): which state a return code
-- means (`state_of_code`), and which states are problems.
-- Own rule: an unknown code is a service's UNKNOWN and a host's DOWN.
use Rattle.std.specs.Prelude.{ℕ, ℤ, pos, negsuc, Bool, true, false, ◌==◌, if◌then◌else◌}
use Rattle.gate_model.specs.declared.object.Kind.{Kind}
use Rattle.gate_model.specs.declared.object.Kind.TheVariants.{Host, Service}
use Rattle.gate_model.specs.declared.state.State.{State}
use Rattle.gate_model.specs.declared.state.State.TheVariants.{Pending, Ok, Warning, Critical, Unknown, Up, Down, Unreachable}

-- a problem state is any but OK, UP and PENDING
abbrev pub is_problem : State → Bool
is_problem Pending = false
is_problem Ok = false
is_problem Warning = true
is_problem Critical = true
is_problem Unknown = true
is_problem Up = false
is_problem Down = true
is_problem Unreachable = true

-- the state of a service by a code of 0 or more
abbrev pub service_state : ℕ → State
service_state code =
    if code == 0 then Ok
    else (if code == 1 then Warning
    else (if code == 2 then Critical else Unknown))

-- the state of a host by a code of 0 or more
abbrev pub host_state : ℕ → State
host_state code =
    if code == 0 then Up
    else (if code == 1 then Down
    else (if code == 2 then Unreachable else Down))

-- the state that a return code means for an object of this kind
abbrev pub state_of_code : Kind → ℤ → State
state_of_code Host (pos code) = host_state code
state_of_code Host (negsuc below) = Down
state_of_code Service (pos code) = service_state code
state_of_code Service (negsuc below) = Unknown

-- each state has a number of its own
abbrev pub number_of_state : State → ℕ
number_of_state Pending = 0
number_of_state Ok = 1
number_of_state Warning = 2
number_of_state Critical = 3
number_of_state Unknown = 4
number_of_state Up = 5
number_of_state Down = 6
number_of_state Unreachable = 7

-- the two are one state
abbrev pub is_same_state : State → State → Bool
is_same_state one other = number_of_state one == number_of_state other
