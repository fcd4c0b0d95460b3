-- A gateway that accepts each of some commands numbers their downtime entries.
use Rattle.std.proofs.Common.{◌≡◌, ℕ, zero, suc, ◌+◌, Bool, true, false, List, [], ◌∷◌, ◌++◌, length, take, drop, map, reverse, refl, sym, ap, ◌∙◌, subst, arith}
use Rattle.std.specs.Prelude.{not, ◌||◌, if◌then◌else◌, Option, Some, None, is_some, option_map, unwrap_or}
use Rattle.std.specs.List.{list_any, sum_by}
use Rattle.std.specs.Option.{option_to_list}
use Rattle.std.proofs.lemmas.List.{reverse-append, take-append-drop}
use Rattle.std.proofs.lemmas.List.Sums.{sum_by-append}
use Rattle.gate_model.specs.declared.record.Moment.{Moment}
use Rattle.gate_model.specs.declared.record.Record.{Record}
use Rattle.gate_model.specs.declared.record.Outcome.{Outcome}
use Rattle.gate_model.specs.declared.record.Outcome.TheVariants.{NoSuchHost}
use Rattle.gate_model.specs.declared.object.ObjectId.{ObjectId}
use Rattle.gate_model.specs.declared.object.ObjectLine.{ObjectLine}
use Rattle.gate_model.specs.declared.downtime.Plan.{Plan}
use Rattle.gate_model.specs.declared.downtime.DowntimeEvent.{DowntimeEvent}
use Rattle.gate_model.specs.declared.downtime.DowntimeEvent.TheVariants as downtime
use Rattle.gate_model.specs.declared.status.ObjectEvent.{ObjectEvent}
use Rattle.gate_model.specs.declared.status.ObjectEvent.TheVariants as object
use Rattle.gate_model.specs.declared.submission.Body.{Body}
use Rattle.gate_model.specs.declared.act.Deed.{Deed}
use Rattle.gate_model.specs.declared.act.Deed.TheVariants as deeds
use Rattle.gate_model.specs.declared.act.Act.{Act}
use Rattle.gate_model.specs.declared.act.Act.TheVariants as acts
use Rattle.gate_model.specs.Act.{act_of}
use Rattle.gate_model.specs.Record.{is_accepted}
use Rattle.gate_model.specs.Status.{is_transition}
use Rattle.gate_model.specs.Table.{place_of, has_object, object_kind, object_at, services_of}
use Rattle.gate_model.specs.Downtime.{scheduled_in}
use Rattle.gate_model.specs.Meaning.{Judged, object_event_of_deed, object_events, transition_by, plan_of, downtime_events_of_deed, downtime_events_of, downtime_events, outcome_at_place, outcome_of_deed, outcome_at, judged, history_of, outcomes_of}
use Rattle.gate_model.proofs.Lists.{list_any_from_position}
use Rattle.gate_applier.proofs.ListSteps.{any-reverse}
use Rattle.restore_plan.specs.Rehearsal.{records_from, first_among, first_refusal, entry_count, AreNumbered}

sum_by-cons : {A : Type 0} (count : A → ℕ) (one : A) (rest : List A) → sum_by count (one ∷ rest) ≡ count one + sum_by count rest
sum_by-cons count one rest =
    let single : sum_by count (one ∷ []) ≡ count one = omega arith in
    sum_by-append count (one ∷ []) rest ∙ ap (λ more. more + sum_by count rest) single

-- ---- entries of one record

-- how many entries these events schedule
scheduled_by : List DowntimeEvent → ℕ
scheduled_by [] = 0
scheduled_by (downtime.Schedule moment object plan ∷ before) = scheduled_by before + 1
scheduled_by (downtime.Delete moment id ∷ before) = scheduled_by before
scheduled_by (downtime.Transition moment place ∷ before) = scheduled_by before

scheduled_by-append : (one other : List DowntimeEvent) → scheduled_by (one ++ other) ≡ scheduled_by one + scheduled_by other
unfolding scheduled_by
scheduled_by-append [] other = omega arith
scheduled_by-append (downtime.Schedule moment object plan ∷ before) other = omega (arith, scheduled_by-append before other)
scheduled_by-append (downtime.Delete moment id ∷ before) other = scheduled_by-append before other
scheduled_by-append (downtime.Transition moment place ∷ before) other = scheduled_by-append before other

length-scheduled : (events : List DowntimeEvent) → length (scheduled_in 1 events) ≡ scheduled_by events
unfolding scheduled_by
length-scheduled [] = refl
length-scheduled (downtime.Schedule moment object plan ∷ before) = omega (arith, length-scheduled before)
length-scheduled (downtime.Delete moment id ∷ before) = length-scheduled before
length-scheduled (downtime.Transition moment place ∷ before) = length-scheduled before

-- a transition schedules nothing
no_transition : (test : Bool) (moment : Moment) (place : ℕ)
    → scheduled_by (option_to_list (if test then Some (downtime.Transition moment place) else None)) ≡ 0
unfolding scheduled_by
no_transition true moment place = refl
no_transition false moment place = refl

none_by : (before : List ObjectEvent) (event : Option ObjectEvent) → scheduled_by (option_to_list (transition_by before event)) ≡ 0
unfolding scheduled_by
none_by before (Some (object.Result place state moment log_index)) =
    no_transition (is_transition place (object.Result place state moment log_index) before) moment place
none_by before _ = refl

-- one for each service
each_service : (moment : Moment) (plan : Plan) (services : List ObjectId)
    → scheduled_by (reverse (map (λ service. downtime.Schedule moment service plan) services)) ≡ length services
unfolding scheduled_by
each_service moment plan [] = refl
each_service moment plan (service ∷ services) =
    let rest = map (λ service. downtime.Schedule moment service plan) services in
    ap scheduled_by (reverse-append (downtime.Schedule moment service plan ∷ []) rest)
    ∙ scheduled_by-append (reverse rest) (downtime.Schedule moment service plan ∷ [])
    ∙ omega (arith, each_service moment plan services)

-- an accepted command has its object
found : (judge : ℕ → Outcome) (host : Bool) (place : Option ℕ)
    → is_accepted (if host then outcome_at_place judge place else NoSuchHost) ≡ true → is_some place ≡ true
found judge true None is = absurd cc
found judge true (Some place) is = refl
found judge false place is = absurd cc

one_at : (moment : Moment) (plan : Plan) (service : Option (List ℕ)) (place : Option ℕ) → is_some place ≡ true
    → scheduled_by (
    unwrap_or (option_map (λ object. downtime.Schedule moment object plan ∷ []) (option_map (object_at (object_kind service)) place)) []
    ) ≡ 1
unfolding scheduled_by
one_at moment plan service None is = absurd cc
one_at moment plan service (Some place) is = refl

-- it schedules downtime
abbrev is_schedule : Deed → Bool
is_schedule (deeds.Schedule span) = true
is_schedule _ = false

-- any other deed schedules nothing
none_at : (before : List ObjectEvent) (moment : Moment) (index : ℕ) (service : Option (List ℕ)) (deed : Deed) (place : Option ℕ) → is_schedule deed ≡ false
    → scheduled_by (unwrap_or (option_map (downtime_events_of_deed before moment index deed) (option_map (object_at (object_kind service)) place)) []) ≡ 0
unfolding scheduled_by
none_at before moment index service deed None other = refl
none_at before moment index service (deeds.Schedule span) (Some place) other = absurd cc
none_at before moment index service deed (Some place) other = none_by before (object_event_of_deed moment index deed (object_at (object_kind service) place))

of_act : (table : List ObjectLine) (before : List Judged) (moment : Moment) (index : ℕ) (act : Act)
    → is_accepted (outcome_at table before moment act) ≡ true
    → scheduled_by (downtime_events_of table (object_events table before) moment index act) ≡ entry_count table act
unfolding scheduled_by
of_act table before moment index (acts.On host service (deeds.Schedule span)) is =
    one_at moment (plan_of span index) service (place_of table host service)
    (found (outcome_of_deed table before moment (deeds.Schedule span)) (has_object table host None) (place_of table host service) is)
of_act table before moment index (acts.On host service deed) is =
    none_at (object_events table before) moment index service deed (place_of table host service) refl
of_act table before moment index (acts.ScheduleServices host span) is = each_service moment (plan_of span index) (services_of table host)
of_act table before moment index act is = refl

-- ---- lists of records, newest first

-- each of these records is accepted
AreAccepted : List ObjectLine → List Record → Type 0
AreAccepted table [] = Unit {0}
AreAccepted table (applied ∷ before) =
    (is_accepted (outcome_at table (judged table before) applied.moment (act_of applied.item.body)) ≡ true) × AreAccepted table before

earlier : (table : List ObjectLine) (newer older : List Record) → AreAccepted table (newer ++ older) → AreAccepted table older
unfolding AreAccepted
earlier table [] older all = all
earlier table (applied ∷ newer) older all = earlier table newer older all.1

-- how many entries a record schedules
abbrev record_count : List ObjectLine → Record → ℕ
record_count table applied = entry_count table (act_of applied.item.body)

-- and a command
abbrev body_count : List ObjectLine → Body → ℕ
body_count table body = entry_count table (act_of body)

if_accepted : (accepted : Bool) (events : List DowntimeEvent) → accepted ≡ true → (if accepted then events else []) ≡ events
if_accepted true events is = refl
if_accepted false events is = absurd cc

counted : (table : List ObjectLine) (records : List Record) → AreAccepted table records
    → scheduled_by (downtime_events table (judged table records)) ≡ sum_by (record_count table) records
unfolding AreAccepted scheduled_by
counted table [] all = refl
counted table (applied ∷ before) all =
    let history = judged table before in
    let here =
    downtime_events_of table (object_events table history) applied.moment (length history) (act_of applied.item.body) in
    let rest = downtime_events table history in
    ap (λ events. scheduled_by (events ++ rest)) (
    if_accepted (is_accepted (outcome_at table history applied.moment (act_of applied.item.body))) here all.0
    )
    ∙ scheduled_by-append here rest
    ∙ ap (λ more. more + scheduled_by rest) (of_act table history applied.moment (length history) (act_of applied.item.body) all.0)
    ∙ ap (λ more. record_count table applied + more) (counted table before all.1)
    ∙ sym (sum_by-cons (record_count table) applied before)

-- ---- no refusal

-- the outcome is a refusal
abbrev is_refusal : Outcome → Bool
is_refusal outcome = not (is_accepted outcome)

no_first : (one other : Bool) → (not one || other) ≡ false → (one ≡ true) × (other ≡ false)
no_first true false is = (refl, refl)
no_first true true is = absurd cc
no_first false other is = absurd cc

accepted_all : (table : List ObjectLine) (records : List Record)
    → list_any is_refusal (map (λ (judgement : Judged). judgement.outcome) (judged table records)) ≡ false → AreAccepted table records
unfolding AreAccepted
accepted_all table [] none = tt
accepted_all table (applied ∷ before) none =
    let both = no_first (is_accepted (outcome_at table (judged table before) applied.moment (act_of applied.item.body)))
    (list_any is_refusal (map (λ (judgement : Judged). judgement.outcome) (judged table before))) none in
    (both.0, accepted_all table before both.1)

accepted_if : (table : List ObjectLine) (records : List Record) → first_among (outcomes_of table records) ≡ None
    → AreAccepted table (reverse records)
accepted_if table records none =
    let outcomes = map (λ (judgement : Judged). judgement.outcome) (history_of table records) in
    accepted_all table (reverse records)
    (sym (any-reverse is_refusal outcomes) ∙ list_any_from_position is_refusal 0 (outcomes_of table records) none)

-- ---- the first of some commands

records_from-take : (now : Moment) (number count : ℕ) (commands : List Body)
    → records_from now number (take count commands) ≡ take count (records_from now number commands)
records_from-take now number zero commands = refl
records_from-take now number (suc count) [] = refl
records_from-take now number (suc count) (body ∷ rest) =
    let one : Record = record { moment = now; item = record { client = 1; number = number; body = body } } in
    ap (λ records. one ∷ records) (records_from-take now (number + 1) count rest)

add-swapped : (one other : ℕ) → one + other ≡ other + one
add-swapped one other = omega arith

sum_by-reverse : (count : Record → ℕ) (records : List Record) → sum_by count (reverse records) ≡ sum_by count records
sum_by-reverse count [] = refl
sum_by-reverse count (one ∷ rest) =
    ap (sum_by count) (reverse-append (one ∷ []) rest)
    ∙ sum_by-append count (reverse rest) (one ∷ [])
    ∙ ap (λ more. more + sum_by count (one ∷ [])) (sum_by-reverse count rest)
    ∙ add-swapped (sum_by count rest) (sum_by count (one ∷ []))
    ∙ sym (sum_by-append count (one ∷ []) rest)

sum-records : (table : List ObjectLine) (now : Moment) (number : ℕ) (commands : List Body)
    → sum_by (record_count table) (records_from now number commands) ≡ sum_by (body_count table) commands
sum-records table now number [] = refl
sum-records table now number (body ∷ rest) =
    let one : Record = record { moment = now; item = record { client = 1; number = number; body = body } } in
    sum_by-cons (record_count table) one (records_from now (number + 1) rest)
    ∙ ap (λ more. body_count table body + more) (sum-records table now (number + 1) rest)
    ∙ sym (sum_by-cons (body_count table) body rest)

pub numbered : (fresh : List ObjectLine) (now : Moment) (commands : List Body) → first_refusal fresh now commands ≡ None
    → AreNumbered fresh now commands
numbered fresh now commands none count =
    let records = records_from now 1 commands in
    let first = records_from now 1 (take count commands) in
    let all : AreAccepted fresh (reverse records) = accepted_if fresh records none in
    let parts : reverse records ≡ reverse (drop count records) ++ reverse (take count records) =
    ap reverse (sym (take-append-drop count records)) ∙ reverse-append (take count records) (drop count records) in
    let early : AreAccepted fresh (reverse (take count records)) =
    earlier fresh (reverse (drop count records)) (reverse (take count records)) (subst (AreAccepted fresh) parts all) in
    let here : AreAccepted fresh (reverse first) =
    subst (λ list. AreAccepted fresh (reverse list)) (sym (records_from-take now 1 count commands)) early in
    ap (λ more. 1 + more) (
    length-scheduled (downtime_events fresh (history_of fresh first))
    ∙ counted fresh (reverse first) here
    ∙ sum_by-reverse (record_count fresh) first
    ∙ sum-records fresh now 1 (take count commands)
    )
