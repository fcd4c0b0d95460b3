-- Worked examples of the meaning of records: each holds by computing the definitions. The object table has the
-- host web1, at place 0, and its service HTTP, at place 1, each with a threshold of 300 seconds; it is opened at 1000.
use Rattle.std.proofs.Common.{◌≡◌, ℕ, Bool, true, false, List, [], ◌∷◌, ◌++◌, map, Option, refl}
use Rattle.std.specs.Prelude.{Some, None, pos, codes}
use Rattle.gate_model.specs.declared.object.Kind.{Kind}
use Rattle.gate_model.specs.declared.object.Kind.TheVariants.{Host, Service}
use Rattle.gate_model.specs.declared.object.ObjectLine.{ObjectLine}
use Rattle.gate_model.specs.declared.submission.Body.{Body}
use Rattle.gate_model.specs.declared.submission.Body.TheVariants as body
use Rattle.gate_model.specs.declared.record.Record.{Record}
use Rattle.gate_model.specs.declared.record.Outcome.TheVariants.{Accepted, NoSuchComment, NoSuchDowntime, WrongKind, NoProblem, NotAcknowledged, BadWindow, WindowPast, NoSuchTrigger}
use Rattle.gate_model.specs.declared.comments.Comment.{Comment}
use Rattle.gate_model.specs.Meaning.{outcomes_of, acknowledgement_at, comments_at, depth_at, is_stale_at, LiveEntry, downtimes_at}

abbrev table : List ObjectLine
table =
    record { host = codes "web1"; service = None; threshold = 300 }
    ∷ record { host = codes "web1"; service = Some (codes "HTTP"); threshold = 300 }
    ∷ []

abbrev at : ℕ → Body → Record
at moment what = record {
  moment = record { 0 = moment };
  item = record { client = 1; number = 1; body = what };
}

-- no service, for a command on the host; the service HTTP
abbrev alone : Option (List ℕ)
alone = None

abbrev http : Option (List ℕ)
http = Some (codes "HTTP")

abbrev result : ℕ → ℕ → Record
result moment code = at moment (body.Result (codes "web1") http (pos code) [])

abbrev acknowledge : ℕ → ℕ → ℕ → Record
acknowledge moment sticky persistent = at moment (body.Acknowledge (codes "web1") http sticky 0 persistent [] [])

abbrev remove : ℕ → Record
remove moment = at moment (body.RemoveAck (codes "web1") http)

abbrev remark : ℕ → Option (List ℕ) → Record
remark moment service = at moment (body.AddComment (codes "web1") service 0 [] [])

-- start, end, `fixed`, trigger and duration, as in the command
abbrev schedule : ℕ → Option (List ℕ) → ℕ → ℕ → ℕ → ℕ → ℕ → Record
schedule moment service starts ends fixed trigger lasts =
    at moment (body.Schedule (codes "web1") service (record { 0 = starts }) (record { 0 = ends }) fixed trigger lasts [] [])

abbrev cancel : ℕ → Kind → ℕ → Record
cancel moment kind id = at moment (body.DelDowntime kind id)

abbrev comment_ids : List Record → ℕ → List ℕ
comment_ids records moment = map (λ (one : Comment). one.id) (comments_at table records (record { 0 = moment }))

abbrev entry_ids : List Record → ℕ → List ℕ
entry_ids records moment = map (λ (one : LiveEntry). one.scheduled.id) (downtimes_at table records (record { 0 = moment }))

abbrev begins : List Record → ℕ → List (Option ℕ)
begins records moment = map (λ (one : LiveEntry). one.begin) (downtimes_at table records (record { 0 = moment }))

abbrev depth_of_host : List Record → ℕ → ℕ
depth_of_host records moment = depth_at table records (record { 0 = moment }) 0

abbrev depth_of_http : List Record → ℕ → ℕ
depth_of_http records moment = depth_at table records (record { 0 = moment }) 1

abbrev is_http_stale : List Record → ℕ → Bool
is_http_stale records moment = is_stale_at table (record { 0 = 1000 }) records (record { 0 = moment }) 300 1

-- ---- acknowledgements

abbrev acknowledged_normally : List Record
acknowledged_normally = result 1100 1 ∷ acknowledge 1110 1 0 ∷ result 1120 2 ∷ []

normal_acknowledgement_ends_with_a_change : acknowledgement_at table acknowledged_normally 1 ≡ None
normal_acknowledgement_ends_with_a_change = refl

its_comment_goes_with_it : comment_ids acknowledged_normally 1120 ≡ []
its_comment_goes_with_it = refl

abbrev acknowledged_stickily : List Record
acknowledged_stickily = result 1100 1 ∷ acknowledge 1110 2 0 ∷ result 1120 2 ∷ []

sticky_acknowledgement_lasts :
    acknowledgement_at table acknowledged_stickily 1 ≡ Some (record { sticky = true; log_index = 1 })
sticky_acknowledgement_lasts = refl

its_comment_stands : comment_ids acknowledged_stickily 1120 ≡ 1 ∷ []
its_comment_stands = refl

sticky_acknowledgement_ends_at_ok : acknowledgement_at table (acknowledged_stickily ++ result 1130 0 ∷ []) 1 ≡ None
sticky_acknowledgement_ends_at_ok = refl

its_comment_goes_at_ok : comment_ids (acknowledged_stickily ++ result 1130 0 ∷ []) 1130 ≡ []
its_comment_goes_at_ok = refl

no_problem_to_acknowledge : outcomes_of table (result 1100 0 ∷ acknowledge 1110 2 0 ∷ []) ≡ Accepted ∷ NoProblem ∷ []
no_problem_to_acknowledge = refl

pending_is_no_problem : outcomes_of table (acknowledge 1110 2 0 ∷ []) ≡ NoProblem ∷ []
pending_is_no_problem = refl

abbrev acknowledged_for_good : List Record
acknowledged_for_good = result 1100 1 ∷ acknowledge 1110 2 1 ∷ result 1120 2 ∷ result 1130 0 ∷ remove 1140 ∷ []

nothing_to_remove : outcomes_of table acknowledged_for_good ≡ Accepted ∷ Accepted ∷ Accepted ∷ Accepted ∷ NotAcknowledged ∷ []
nothing_to_remove = refl

persistent_comment_stands_after_its_acknowledgement : comment_ids acknowledged_for_good 1140 ≡ 1 ∷ []
persistent_comment_stands_after_its_acknowledgement = refl

-- a normal acknowledgement replaces a sticky one: a change then ends it, and nothing falls back to the earlier one
replaced_acknowledgement_ends_with_the_later :
    acknowledgement_at table (result 1100 1 ∷ acknowledge 1110 2 0 ∷ acknowledge 1115 1 0 ∷ result 1120 2 ∷ []) 1 ≡ None
replaced_acknowledgement_ends_with_the_later = refl

-- ---- freshness

fresh_at_the_threshold : is_http_stale [] 1300 ≡ false
fresh_at_the_threshold = refl

stale_one_second_later : is_http_stale [] 1301 ≡ true
stale_one_second_later = refl

fresh_since_a_result : is_http_stale (result 1400 0 ∷ []) 1700 ≡ false
fresh_since_a_result = refl

stale_since_a_result : is_http_stale (result 1400 0 ∷ []) 1701 ≡ true
stale_since_a_result = refl

-- ---- comments

abbrev remarks_and_deletions : List Record
remarks_and_deletions =
    remark 1100 http
    ∷ remark 1100 alone
    ∷ at 1100 (body.DelComment Host 1)
    ∷ at 1100 (body.DelComment Service 1)
    ∷ at 1100 (body.DelComment Service 1)
    ∷ at 1100 (body.DelAllComments (codes "web1") http)
    ∷ []

deletions_by_id_and_kind :
    outcomes_of table remarks_and_deletions ≡ Accepted ∷ Accepted ∷ WrongKind ∷ Accepted ∷ NoSuchComment ∷ Accepted ∷ []
deletions_by_id_and_kind = refl

comment_of_the_host_stands : comment_ids remarks_and_deletions 1100 ≡ 2 ∷ []
comment_of_the_host_stands = refl

-- ---- downtime

abbrev two_fixed : List Record
two_fixed = schedule 1050 http 1100 1200 1 0 0 ∷ schedule 1050 http 1150 1300 1 0 0 ∷ []

fixed_downtime_counts :
    map (depth_of_http two_fixed) (1099 ∷ 1100 ∷ 1150 ∷ 1200 ∷ 1300 ∷ []) ≡ 0 ∷ 1 ∷ 2 ∷ 1 ∷ 0 ∷ []
fixed_downtime_counts = refl

deleted_downtime_counts_no_more : depth_of_http (two_fixed ++ cancel 1160 Service 1 ∷ []) 1160 ≡ 1
deleted_downtime_counts_no_more = refl

downtime_of_the_other_kind :
    outcomes_of table (two_fixed ++ cancel 1160 Service 1 ∷ cancel 1160 Host 2 ∷ []) ≡ Accepted ∷ Accepted ∷ Accepted ∷ WrongKind ∷ []
downtime_of_the_other_kind = refl

abbrev triggered_by_a_fixed_one : List Record
triggered_by_a_fixed_one = schedule 1050 http 1100 1200 1 0 0 ∷ schedule 1050 alone 1200 1300 0 1 30 ∷ []

triggered_entry_begins_with_its_trigger :
    map (depth_of_host triggered_by_a_fixed_one) (1099 ∷ 1100 ∷ 1129 ∷ 1130 ∷ []) ≡ 0 ∷ 1 ∷ 1 ∷ 0 ∷ []
triggered_entry_begins_with_its_trigger = refl

abbrev flexible : List Record
flexible = schedule 1100 http 1200 1300 0 0 50 ∷ []

recovery_ends_no_flexible_downtime :
    map (depth_of_http (flexible ++ result 1250 2 ∷ result 1260 0 ∷ [])) (1260 ∷ 1299 ∷ 1300 ∷ []) ≡ 1 ∷ 1 ∷ 0 ∷ []
recovery_ends_no_flexible_downtime = refl

problem_to_problem_begins_nothing : begins (flexible ++ result 1150 1 ∷ result 1250 2 ∷ []) 1299 ≡ None ∷ []
problem_to_problem_begins_nothing = refl

unbegun_flexible_downtime_is_over_at_its_end : entry_ids (flexible ++ result 1150 1 ∷ result 1250 2 ∷ []) 1300 ≡ []
unbegun_flexible_downtime_is_over_at_its_end = refl

transition_at_the_end_begins_nothing : begins (flexible ++ result 1300 2 ∷ []) 1299 ≡ None ∷ []
transition_at_the_end_begins_nothing = refl

abbrev chain_of_three : List Record
chain_of_three =
    schedule 1100 http 1200 1300 0 0 50
    ∷ schedule 1100 alone 1200 1300 0 1 100
    ∷ schedule 1100 http 1200 1400 1 2 0
    ∷ result 1250 2
    ∷ []

whole_chain_begins : depth_of_http chain_of_three 1250 ≡ 2
whole_chain_begins = refl

whole_chain_begins_on_the_host : depth_of_host chain_of_three 1250 ≡ 1
whole_chain_begins_on_the_host = refl

abbrev chain_deleted : List Record
chain_deleted =
    chain_of_three
    ++ cancel 1260 Service 1
    ∷ cancel 1260 Service 1
    ∷ schedule 1260 http 1300 1400 1 1 0
    ∷ []

deletion_follows_the_chain : entry_ids chain_deleted 1260 ≡ []
deletion_follows_the_chain = refl

comments_of_the_chain_go : comment_ids chain_deleted 1260 ≡ []
comments_of_the_chain_go = refl

deleted_entry_is_no_trigger :
    outcomes_of table chain_deleted
    ≡ Accepted ∷ Accepted ∷ Accepted ∷ Accepted ∷ Accepted ∷ NoSuchDowntime ∷ NoSuchTrigger ∷ []
deleted_entry_is_no_trigger = refl

windows_are_refused :
    outcomes_of table (schedule 1100 http 1300 1300 1 0 0 ∷ schedule 1100 http 1000 1100 1 0 0 ∷ schedule 1100 http 1000 900 1 7 0 ∷ [])
    ≡ BadWindow ∷ WindowPast ∷ BadWindow ∷ []
windows_are_refused = refl

abbrev no_duration : List Record
no_duration = schedule 1100 http 1200 1300 0 0 0 ∷ schedule 1100 http 1200 1300 0 1 20 ∷ result 1250 2 ∷ []

entry_without_duration_is_over_as_it_begins : entry_ids no_duration 1250 ≡ 2 ∷ []
entry_without_duration_is_over_as_it_begins = refl

its_comment_goes_at_once : comment_ids no_duration 1250 ≡ 2 ∷ []
its_comment_goes_at_once = refl

what_it_triggers_begins : map (depth_of_http no_duration) (1250 ∷ 1269 ∷ 1270 ∷ []) ≡ 1 ∷ 1 ∷ 0 ∷ []
what_it_triggers_begins = refl

abbrev chain_with_a_short_link : List Record
chain_with_a_short_link =
    schedule 1100 http 1200 1300 0 0 100
    ∷ schedule 1100 http 1200 1300 0 1 10
    ∷ schedule 1100 http 1200 1300 0 2 100
    ∷ result 1250 2
    ∷ []

short_link_is_over_first : map (depth_of_http chain_with_a_short_link) (1250 ∷ 1260 ∷ []) ≡ 3 ∷ 2 ∷ []
short_link_is_over_first = refl

deletion_stops_at_what_is_over :
    map (depth_of_http (chain_with_a_short_link ++ cancel 1270 Service 1 ∷ [])) (1270 ∷ 1349 ∷ 1350 ∷ []) ≡ 1 ∷ 1 ∷ 0 ∷ []
deletion_stops_at_what_is_over = refl
