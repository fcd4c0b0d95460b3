-- The command that is sent for a request (External Command List): `body_for`, and `schedule` of downtime whose times are
-- known. Notifications are asked for, as `notify` has it, though a gateway sends none.
use Rattle.std.specs.Prelude.{ℕ, ℤ, Bool, true, false, List, Option, Some, None, Result, Ok, Err, option_map, ok_or, unwrap_or, is_none, is_some, if◌then◌else◌}
use Rattle.std.specs.Int.{from_bool}
use Rattle.gate_model.specs.declared.submission.Body.{Body}
use Rattle.gate_model.specs.declared.submission.Body.TheVariants as bodies
use Rattle.operator_commands.specs.declared.request.Object.{Object}
use Rattle.operator_commands.specs.declared.request.Remark.{Remark}
use Rattle.operator_commands.specs.declared.request.Request.{Request}
use Rattle.operator_commands.specs.declared.request.Request.TheVariants as request
use Rattle.operator_commands.specs.declared.bodies.Times.{Times}
use Rattle.operator_commands.specs.declared.bodies.RequestFault.{RequestFault}
use Rattle.operator_commands.specs.declared.bodies.RequestFault.TheVariants.{BadState, BadSetting, ServicesOfService, NoCommand}
use Rattle.operator_commands.specs.Names.{setting_of, service_code, host_code}

-- `sticky`: 2 where it is asked for
abbrev pub stickiness : Bool → ℕ
stickiness sticky = if sticky then 2 else 1

-- who says it
abbrev pub author_of : List ℕ → Remark → List ℕ
author_of user remark = unwrap_or remark.author user

-- the return code of a state of the object
abbrev pub code_of : Object → List ℕ → Option ℤ
code_of object state = elim object.service [ Some service ↦ service_code state | None ↦ host_code state ]

-- the command of a request that is one by itself, or why it is none
abbrev pub body_for : List ℕ → Request → Result Body RequestFault
body_for user (request.Ack object remark sticky persistent) =
    Ok
    (bodies.Acknowledge object.host object.service (stickiness sticky) 1 (from_bool persistent) (author_of user remark)
    remark.text)
body_for user (request.Unack object) = Ok (bodies.RemoveAck object.host object.service)
body_for user (request.Comment object remark persistent) =
    Ok (bodies.AddComment object.host object.service (from_bool persistent) (author_of user remark) remark.text)
body_for user (request.Passive setting object) =
    ok_or (option_map (λ on. bodies.Passive object.host object.service on) (setting_of setting)) BadSetting
body_for user (request.Result object state output) =
    ok_or (option_map (λ code. bodies.Result object.host object.service code output) (code_of object state)) BadState
body_for user request.Shutdown = Ok bodies.Shutdown
body_for user other = Err NoCommand

-- fixed downtime has 1, and the seconds that flexible downtime lasts are 0 there
abbrev pub fixed_of : Times → ℕ
fixed_of times = from_bool (is_none times.flexible)

abbrev pub lasts_of : Times → ℕ
lasts_of times = unwrap_or times.flexible 0

-- the command of downtime at these times, for an object or each service of its host, or why there is none
abbrev pub schedule : List ℕ → Object → Remark → Times → Bool → Result Body RequestFault
schedule user object remark times true =
    if is_some object.service then Err ServicesOfService
    else Ok
    (bodies.ScheduleServices object.host times.starts times.ends (fixed_of times) times.trigger (lasts_of times)
    (author_of user remark) remark.text)
schedule user object remark times false =
    Ok
    (bodies.Schedule object.host object.service times.starts times.ends (fixed_of times) times.trigger (lasts_of times)
    (author_of user remark) remark.text)
