-- Worked examples of downtime for all services of a host and of passive checks on and off: each holds by computing
-- the definitions. The object table has the host web1, at place 0, its services HTTP and SSH, at places 1 and 2, and
-- the host db1, at place 3, each with a threshold of 300 seconds.
use Rattle.std.proofs.Common.{◌≡◌, ℕ, Bool, true, false, List, [], ◌∷◌, ◌++◌, map, Option, refl}
use Rattle.std.specs.Prelude.{Some, None, pos, codes}
use Rattle.gate_model.specs.declared.object.Kind.{Kind}
use Rattle.gate_model.specs.declared.object.Kind.TheVariants.{Service}
use Rattle.gate_model.specs.declared.object.ObjectId.{ObjectId}
use Rattle.gate_model.specs.declared.object.ObjectLine.{ObjectLine}
use Rattle.gate_model.specs.declared.state.State.TheVariants.{Pending}
use Rattle.gate_model.specs.declared.submission.Body.{Body}
use Rattle.gate_model.specs.declared.submission.Body.TheVariants as body
use Rattle.gate_model.specs.declared.record.Record.{Record}
use Rattle.gate_model.specs.declared.record.Outcome.TheVariants.{Accepted, PassiveDisabled, NoServices, NoSuchHost, NoSuchService, NoSuchTrigger, BadWindow, WindowPast}
use Rattle.gate_model.specs.declared.comments.Comment.{Comment}
use Rattle.gate_model.specs.Table.{services_of, most_services}
use Rattle.gate_model.specs.Meaning.{outcomes_of, state_at, comments_at, depth_at, is_stale_at, is_passive_at, LiveEntry, downtimes_at}

abbrev line : List ℕ → Option (List ℕ) → ObjectLine
line host service = record { host = host; service = service; threshold = 300 }

abbrev table : List ObjectLine
table =
    line (codes "web1") None
    ∷ line (codes "web1") (Some (codes "HTTP"))
    ∷ line (codes "web1") (Some (codes "SSH"))
    ∷ line (codes "db1") None
    ∷ []

abbrev at : ℕ → Body → Record
at moment what = record {
  moment = record { 0 = moment };
  item = record { client = 1; number = 1; body = what };
}

abbrev http : Option (List ℕ)
http = Some (codes "HTTP")

abbrev result : ℕ → ℕ → Record
result moment code = at moment (body.Result (codes "web1") http (pos code) [])

abbrev switch : ℕ → Option (List ℕ) → Bool → Record
switch moment service on = at moment (body.Passive (codes "web1") service on)

-- start, end, `fixed`, trigger and duration, as in the command
abbrev schedule_services : ℕ → List ℕ → ℕ → ℕ → ℕ → ℕ → ℕ → Record
schedule_services moment host starts ends fixed trigger lasts =
    at moment (body.ScheduleServices host (record { 0 = starts }) (record { 0 = ends }) fixed trigger lasts (codes "bob") (codes "rack"))

abbrev schedule : ℕ → ℕ → ℕ → ℕ → ℕ → ℕ → Record
schedule moment starts ends fixed trigger lasts =
    at moment (body.Schedule (codes "web1") http (record { 0 = starts }) (record { 0 = ends }) fixed trigger lasts [] [])

abbrev cancel : ℕ → Kind → ℕ → Record
cancel moment kind id = at moment (body.DelDowntime kind id)

-- what is looked at of a comment and of an entry: its id and the place of its object
abbrev comments : List Record → ℕ → List (ℕ × ℕ)
comments records moment = map (λ (one : Comment). (one.id, one.object.place)) (comments_at table records (record { 0 = moment }))

abbrev entries : List Record → ℕ → List (ℕ × ℕ)
entries records moment =
    map (λ (one : LiveEntry). (one.scheduled.id, one.scheduled.object.place)) (downtimes_at table records (record { 0 = moment }))

-- the log indexes of the records of the live entries
abbrev entry_records : List Record → ℕ → List ℕ
entry_records records moment =
    map (λ (one : LiveEntry). one.scheduled.plan.log_index) (downtimes_at table records (record { 0 = moment }))

-- the depths of web1, HTTP, SSH and db1
abbrev depths : List Record → ℕ → List ℕ
depths records moment = map (depth_at table records (record { 0 = moment })) (0 ∷ 1 ∷ 2 ∷ 3 ∷ [])

-- ---- the services of a host

services_in_table_order : services_of table (codes "web1") ≡ record { place = 1; kind = Service } ∷ record { place = 2; kind = Service } ∷ []
services_in_table_order = refl

host_without_services : services_of table (codes "db1") ≡ []
host_without_services = refl

two_services_at_most : most_services table ≡ 2
two_services_at_most = refl

-- other objects may stand between the services of a host
abbrev mixed : List ObjectLine
mixed =
    line (codes "db1") None
    ∷ line (codes "web1") None
    ∷ line (codes "web1") (Some (codes "HTTP"))
    ∷ line (codes "db1") (Some (codes "SQL"))
    ∷ line (codes "web1") (Some (codes "SSH"))
    ∷ []

services_stand_anywhere_after_their_host :
    map (λ (one : ObjectId). one.place) (services_of mixed (codes "web1")) ≡ 2 ∷ 4 ∷ []
services_stand_anywhere_after_their_host = refl

-- ---- downtime for all services

abbrev all_services : List Record
all_services = schedule_services 1050 (codes "web1") 1100 1200 1 0 0 ∷ []

each_service_has_an_entry : entries all_services 1050 ≡ (1, 1) ∷ (2, 2) ∷ []
each_service_has_an_entry = refl

each_service_has_a_comment : comments all_services 1050 ≡ (1, 1) ∷ (2, 2) ∷ []
each_service_has_a_comment = refl

all_are_of_one_record : entry_records all_services 1050 ≡ 0 ∷ 0 ∷ []
all_are_of_one_record = refl

services_are_in_downtime_and_the_host_is_not : depths all_services 1100 ≡ 0 ∷ 1 ∷ 1 ∷ 0 ∷ []
services_are_in_downtime_and_the_host_is_not = refl

abbrev one_deleted : List Record
one_deleted = all_services ++ cancel 1150 Service 1 ∷ []

deletion_ends_one_service_alone : depths one_deleted 1150 ≡ 0 ∷ 0 ∷ 1 ∷ 0 ∷ []
deletion_ends_one_service_alone = refl

comment_of_the_other_stands : comments one_deleted 1150 ≡ (2, 2) ∷ []
comment_of_the_other_stands = refl

abbrev refused : List Record
refused =
    one_deleted
    ++ schedule_services 1160 (codes "db1") 1200 1200 1 0 0
    ∷ schedule_services 1160 (codes "web1") 1200 1200 1 0 0
    ∷ schedule_services 1160 (codes "no1") 1200 1200 1 0 0
    ∷ []

refusals_in_their_order : outcomes_of table refused ≡ Accepted ∷ Accepted ∷ NoServices ∷ BadWindow ∷ NoSuchHost ∷ []
refusals_in_their_order = refl

refusals_make_nothing : entries refused 1160 ≡ (2, 2) ∷ []
refusals_make_nothing = refl

abbrev again : List Record
again = refused ++ schedule_services 1160 (codes "web1") 1170 1180 1 0 0 ∷ []

ids_go_on : entries again 1160 ≡ (2, 2) ∷ (3, 1) ∷ (4, 2) ∷ []
ids_go_on = refl

comment_ids_go_on : comments again 1160 ≡ (2, 2) ∷ (3, 1) ∷ (4, 2) ∷ []
comment_ids_go_on = refl

new_entries_are_of_the_last_record : entry_records again 1160 ≡ 0 ∷ 5 ∷ 5 ∷ []
new_entries_are_of_the_last_record = refl

past_window_before_trigger :
    outcomes_of table (schedule_services 1160 (codes "web1") 1100 1160 1 9 0 ∷ schedule_services 1160 (codes "web1") 1170 1180 1 9 0 ∷ [])
    ≡ WindowPast ∷ NoSuchTrigger ∷ []
past_window_before_trigger = refl

-- an entry of the record triggers none of the same record, and may trigger those of a later one
abbrev triggered : List Record
triggered =
    schedule_services 1050 (codes "web1") 1100 1200 0 0 50
    ∷ schedule_services 1060 (codes "web1") 1100 1200 0 2 20
    ∷ []

trigger_begins_those_of_a_later_record :
    depths (triggered ++ at 1110 (body.Result (codes "web1") (Some (codes "SSH")) (pos 2) []) ∷ []) 1110 ≡ 0 ∷ 1 ∷ 2 ∷ 0 ∷ []
trigger_begins_those_of_a_later_record = refl

deleted_trigger_takes_them_along : entries (triggered ++ cancel 1070 Service 2 ∷ []) 1070 ≡ (1, 1) ∷ []
deleted_trigger_takes_them_along = refl

-- ---- passive checks on and off

abbrev disabled : List Record
disabled = schedule 1050 1100 1300 0 0 50 ∷ switch 1100 http false ∷ result 1150 2 ∷ []

disabled_result_is_refused : outcomes_of table disabled ≡ Accepted ∷ Accepted ∷ PassiveDisabled ∷ []
disabled_result_is_refused = refl

disabled_result_leaves_pending : state_at table disabled 1 ≡ Pending
disabled_result_leaves_pending = refl

disabled_result_begins_nothing : depths disabled 1150 ≡ 0 ∷ 0 ∷ 0 ∷ 0 ∷ []
disabled_result_begins_nothing = refl

stale_without_results : is_stale_at table (record { 0 = 1000 }) disabled (record { 0 = 1301 }) 300 1 ≡ true
stale_without_results = refl

fresh_at_the_threshold : is_stale_at table (record { 0 = 1000 }) disabled (record { 0 = 1300 }) 300 1 ≡ false
fresh_at_the_threshold = refl

abbrev enabled_again : List Record
enabled_again = disabled ++ switch 1200 http true ∷ result 1250 2 ∷ []

enabled_result_is_accepted : outcomes_of table enabled_again ≡ Accepted ∷ Accepted ∷ PassiveDisabled ∷ Accepted ∷ Accepted ∷ []
enabled_result_is_accepted = refl

it_begins_the_downtime :
    map (λ moment. depth_at table enabled_again (record { 0 = moment }) 1) (1249 ∷ 1250 ∷ 1299 ∷ 1300 ∷ []) ≡ 0 ∷ 1 ∷ 1 ∷ 0 ∷ []
it_begins_the_downtime = refl

-- a host's setting leaves its services alone, and one that changes nothing is accepted
abbrev host_disabled : List Record
host_disabled =
    switch 1100 None false
    ∷ switch 1100 None false
    ∷ result 1110 0
    ∷ at 1110 (body.Result (codes "web1") None (pos 0) [])
    ∷ at 1110 (body.Result (codes "no1") None (pos 0) [])
    ∷ switch 1120 (Some (codes "FTP")) true
    ∷ []

settings_are_of_one_object :
    outcomes_of table host_disabled ≡ Accepted ∷ Accepted ∷ Accepted ∷ PassiveDisabled ∷ NoSuchHost ∷ NoSuchService ∷ []
settings_are_of_one_object = refl

every_object_opens_enabled : map (is_passive_at table host_disabled) (0 ∷ 1 ∷ 2 ∷ 9 ∷ []) ≡ false ∷ true ∷ true ∷ true ∷ []
every_object_opens_enabled = refl
