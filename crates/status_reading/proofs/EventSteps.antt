-- What happened in a gateway has ids, moments and numbers of 32 bits.
use Rattle.std.proofs.Common.{◌≡◌, ℕ, ◌+◌, ◌^◌, ◌≤◌, ◌<◌, ◌==◌, Bool, true, false, cond, List, [], ◌∷◌, map, length, Option, Some, None, arith}
use Rattle.std.specs.Prelude.{IfSome, if◌then◌else◌}
use Rattle.std.specs.List.{AllByRecursion, list_any}
use Rattle.std.proofs.lemmas.List.Sums.{sum_by-cons}
use Rattle.gate_model.specs.declared.record.Moment.{Moment}
use Rattle.gate_model.specs.declared.record.Record.{Record}
use Rattle.gate_model.specs.declared.object.ObjectId.{ObjectId}
use Rattle.gate_model.specs.declared.object.ObjectLine.{ObjectLine}
use Rattle.gate_model.specs.declared.act.Deed.{Deed}
use Rattle.gate_model.specs.declared.act.Deed.TheVariants as deeds
use Rattle.gate_model.specs.declared.act.Act.{Act}
use Rattle.gate_model.specs.declared.act.Act.TheVariants as acts
use Rattle.gate_model.specs.Act.{act_of}
use Rattle.gate_model.specs.declared.status.ObjectEvent.{ObjectEvent}
use Rattle.gate_model.specs.declared.status.ObjectEvent.TheVariants as object
use Rattle.gate_model.specs.declared.status.CheckResult.{CheckResult}
use Rattle.gate_model.specs.declared.comments.Comment.{Comment}
use Rattle.gate_model.specs.declared.comments.CommentEvent.{CommentEvent}
use Rattle.gate_model.specs.declared.comments.CommentEvent.TheVariants.{Add, Delete, DeleteAll, Clear, Gone}
use Rattle.gate_model.specs.declared.downtime.Scheduled.{Scheduled}
use Rattle.gate_model.specs.declared.downtime.DowntimeEvent.{DowntimeEvent}
use Rattle.gate_model.specs.declared.downtime.DowntimeEvent.TheVariants as downtime
use Rattle.gate_model.specs.Record.{is_accepted}
use Rattle.gate_model.specs.Status.{newest, check_result_of, results_of, last_result, is_transition}
use Rattle.gate_model.specs.Comments.{is_addition, number_made, removes, unless_removed, comment_made, comments_left}
use Rattle.gate_model.specs.Downtime.{scheduled_in}
use Rattle.gate_model.specs.Table.{object_of, services_of}
use Rattle.gate_model.specs.Meaning.{Judged, object_event_of_deed, object_event_of, object_event, object_events, transition_by, plan_of, downtime_events_of_deed, downtime_events_of, downtime_events_of_record, downtime_events, judged}
use Rattle.gate_lines.specs.Lines.{last_moment}
use Rattle.status_reading.specs.Readable.{Fits, MayFit}
use Rattle.status_reading.proofs.EachSteps.{each_append, each_reverse, every_map, each_filter_map, each_option, some_if, some_made, each_made}
use Rattle.status_reading.proofs.SubmissionSteps.{IsPlainPlan, IsPlainDeed, IsPlainAct}

-- ---- records

-- what holds of records holds of them as they were judged
pub each_judged : (P : Record → Type 0) (table : List ObjectLine) (records : List Record) → AllByRecursion P records
    → AllByRecursion (λ (judgement : Judged). P judgement.applied) (judged table records)
each_judged P table [] all = tt
each_judged P table (applied ∷ records) all = (all.0, each_judged P table records all.1)

pub length_judged : (table : List ObjectLine) (records : List Record) → length (judged table records) ≡ length records
length_judged table [] = omega arith
length_judged table (applied ∷ records) = omega (arith, length_judged table records)

-- ---- results

-- a result's moment has 32 bits
abbrev pub HasMoment : ObjectEvent → Type 0
HasMoment (object.Result place state moment log_index) = Fits moment.0
HasMoment _ = Unit {0}

deed_fits : (moment : Moment) (log_index : ℕ) (deed : Deed) (found : ObjectId) → Fits moment.0
    → IfSome (object_event_of_deed moment log_index deed found) HasMoment
deed_fits moment log_index (deeds.Result code) found fits = fits
deed_fits moment log_index deed found fits = tt

event_fits : (table : List ObjectLine) (moment : Moment) (log_index : ℕ) (act : Act) → Fits moment.0
    → IfSome (object_event_of table moment log_index act) HasMoment
event_fits table moment log_index (acts.On host service deed) fits =
    some_made HasMoment (object_event_of_deed moment log_index deed)
    (λ found. deed_fits moment log_index deed found fits) (object_of table host service)
event_fits table moment log_index act fits = tt

accepted_fits : (accepted : Bool) (event : Option ObjectEvent) → IfSome event HasMoment
    → IfSome (if accepted then event else None) HasMoment
accepted_fits true event fits = fits
accepted_fits false event fits = tt

pub events_fit : (table : List ObjectLine) (judgements : List Judged)
    → AllByRecursion (λ (judgement : Judged). Fits judgement.applied.moment.0) judgements
    → AllByRecursion HasMoment (object_events table judgements)
events_fit table judgements all =
    each_filter_map (λ (judgement : Judged). Fits judgement.applied.moment.0) HasMoment (object_event table)
    (λ judgement fits.
    accepted_fits (is_accepted judgement.outcome)
    (object_event_of table judgement.applied.moment judgement.log_index (act_of judgement.applied.item.body))
    (event_fits table judgement.applied.moment judgement.log_index (act_of judgement.applied.item.body) fits))
    judgements all

result_fits : (place : ℕ) (event : ObjectEvent) → HasMoment event
    → IfSome (check_result_of place event) (λ (last : CheckResult). Fits last.moment.0)
result_fits place (object.Result other state moment log_index) fits =
    some_if (λ (last : CheckResult). Fits last.moment.0) (other == place)
    (record { state = state; moment = moment; log_index = log_index }) fits
result_fits place _ fits = tt

newest_fits : (results : List CheckResult) → AllByRecursion (λ (last : CheckResult). Fits last.moment.0) results
    → MayFit (last_moment (newest results))
newest_fits [] all = tt
newest_fits (last ∷ results) all = all.0

-- the last result of an object has a moment of 32 bits
pub last_fits : (place : ℕ) (events : List ObjectEvent) → AllByRecursion HasMoment events
    → MayFit (last_moment (last_result place events))
last_fits place events all =
    newest_fits (results_of place events)
    (each_filter_map HasMoment (λ (last : CheckResult). Fits last.moment.0) (check_result_of place) (result_fits place)
    events all)

-- ---- comments

kept_below : (removed : Bool) (comment : Comment) (most : ℕ) → comment.id < most
    → AllByRecursion (λ (one : Comment). one.id < most) (if removed then [] else comment ∷ [])
kept_below true comment most less = tt
kept_below false comment most less = (less, tt)

-- an event more
made_cons : (event : CommentEvent) (history : List CommentEvent)
    → number_made (event ∷ history) ≡ cond (is_addition event) 1 0 + number_made history
made_cons event history = sum_by-cons (λ (one : CommentEvent). cond (is_addition one) 1 0) event history

-- ids of comments are below the id of the next one
pub ids_below : (first : ℕ) (later history : List CommentEvent) (most : ℕ) → first + number_made history ≤ most
    → AllByRecursion (λ (one : Comment). one.id < most) (comments_left first later history)
ids_below first later [] most few = tt
ids_below first later (Add object source persistent log_index ∷ before) most few =
    let made = made_cons (Add object source persistent log_index) before in
    let comment = comment_made first before object source persistent log_index in
    each_append (λ (one : Comment). one.id < most)
    (comments_left first (Add object source persistent log_index ∷ later) before) (unless_removed later comment)
    (ids_below first (Add object source persistent log_index ∷ later) before most (omega (arith, made, few)))
    (kept_below (list_any (λ event. removes event comment) later) comment most (omega (arith, made, few)))
ids_below first later (Delete id ∷ before) most few =
    let made = made_cons (Delete id) before in
    ids_below first (Delete id ∷ later) before most (omega (arith, made, few))
ids_below first later (DeleteAll place ∷ before) most few =
    let made = made_cons (DeleteAll place) before in
    ids_below first (DeleteAll place ∷ later) before most (omega (arith, made, few))
ids_below first later (Clear place ∷ before) most few =
    let made = made_cons (Clear place) before in
    ids_below first (Clear place ∷ later) before most (omega (arith, made, few))
ids_below first later (Gone id ∷ before) most few =
    let made = made_cons (Gone id) before in
    ids_below first (Gone id ∷ later) before most (omega (arith, made, few))

-- ---- downtime entries

-- the numbers of what is scheduled have 32 bits
abbrev pub SchedulesPlain : DowntimeEvent → Type 0
SchedulesPlain (downtime.Schedule moment object plan) = IsPlainPlan plan
SchedulesPlain _ = Unit {0}

-- a transition schedules nothing
transition_plain : (before : List ObjectEvent) (event : Option ObjectEvent)
    → IfSome (transition_by before event) SchedulesPlain
transition_plain before (Some (object.Result place state moment log_index)) =
    some_if SchedulesPlain (is_transition place (object.Result place state moment log_index) before)
    (downtime.Transition moment place) tt
transition_plain before _ = tt

deed_plain : (before : List ObjectEvent) (moment : Moment) (log_index : ℕ) (deed : Deed) (found : ObjectId)
    → IsPlainDeed deed
    → AllByRecursion SchedulesPlain (downtime_events_of_deed before moment log_index deed found)
deed_plain before moment log_index (deeds.Schedule span) found plain = (plain log_index, tt)
deed_plain before moment log_index deed found plain =
    let event = object_event_of_deed moment log_index deed found in
    each_option SchedulesPlain (transition_by before event) (transition_plain before event)

act_plain : (table : List ObjectLine) (before : List ObjectEvent) (moment : Moment) (log_index : ℕ) (act : Act)
    → IsPlainAct act
    → AllByRecursion SchedulesPlain (downtime_events_of table before moment log_index act)
act_plain table before moment log_index (acts.On host service deed) plain =
    each_made SchedulesPlain (downtime_events_of_deed before moment log_index deed)
    (λ found. deed_plain before moment log_index deed found plain) (object_of table host service)
act_plain table before moment log_index (acts.ScheduleServices host span) plain =
    let make : ObjectId → DowntimeEvent = λ service. downtime.Schedule moment service (plan_of span log_index) in
    each_reverse SchedulesPlain (map make (services_of table host))
    (every_map SchedulesPlain make (λ service. plain log_index) (services_of table host))
act_plain table before moment log_index (acts.DelDowntime kind id) plain = (tt, tt)
act_plain table before moment log_index act plain = tt

accepted_plain : (accepted : Bool) (events : List DowntimeEvent) → AllByRecursion SchedulesPlain events
    → AllByRecursion SchedulesPlain (if accepted then events else [])
accepted_plain true events plain = plain
accepted_plain false events plain = tt

pub downtimes_plain : (table : List ObjectLine) (judgements : List Judged)
    → AllByRecursion (λ (judgement : Judged). IsPlainAct (act_of judgement.applied.item.body)) judgements
    → AllByRecursion SchedulesPlain (downtime_events table judgements)
downtimes_plain table [] all = tt
downtimes_plain table (judgement ∷ before) all =
    let moment = judgement.applied.moment in
    let act = act_of judgement.applied.item.body in
    let objects = object_events table before in
    each_append SchedulesPlain (downtime_events_of_record table before judgement) (downtime_events table before)
    (accepted_plain (is_accepted judgement.outcome)
    (downtime_events_of table objects moment judgement.log_index act)
    (act_plain table objects moment judgement.log_index act all.0))
    (downtimes_plain table before all.1)

-- the id and the numbers of an entry have 32 bits
pub record IsPlainScheduled (one : Scheduled) : Type 0 where
  pub id : Fits one.id
  pub plan : IsPlainPlan one.plan

pub scheduled_plain : (events : List DowntimeEvent) → 1 + length (scheduled_in 1 events) ≤ 2 ^ 32
    → AllByRecursion SchedulesPlain events
    → AllByRecursion IsPlainScheduled (scheduled_in 1 events)
scheduled_plain [] few all = tt
scheduled_plain (downtime.Schedule moment object plan ∷ before) few all =
    (record { id = omega (arith, few); plan = all.0 }, scheduled_plain before (omega (arith, few)) all.1)
scheduled_plain (downtime.Delete moment id ∷ before) few all = scheduled_plain before few all.1
scheduled_plain (downtime.Transition moment place ∷ before) few all = scheduled_plain before few all.1
