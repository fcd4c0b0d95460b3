-- What holds of each object of a table holds of the objects of its gateway's comments and downtime entries.
use Rattle.std.proofs.Common.{ℕ, ◌+◌, Bool, true, false, List, [], ◌∷◌, map, Option, Some}
use Rattle.std.specs.Prelude.{IfSome, if◌then◌else◌}
use Rattle.std.specs.List.{AllByRecursion, enumerate_from, list_any}
use Rattle.gate_model.specs.declared.record.Moment.{Moment}
use Rattle.gate_model.specs.declared.object.ObjectId.{ObjectId}
use Rattle.gate_model.specs.declared.object.ObjectLine.{ObjectLine}
use Rattle.gate_model.specs.declared.act.Deed.{Deed}
use Rattle.gate_model.specs.declared.act.Deed.TheVariants as deeds
use Rattle.gate_model.specs.declared.act.Act.{Act}
use Rattle.gate_model.specs.declared.act.Act.TheVariants as acts
use Rattle.gate_model.specs.Act.{act_of}
use Rattle.gate_model.specs.declared.status.ObjectEvent.{ObjectEvent}
use Rattle.gate_model.specs.declared.status.ObjectEvent.TheVariants as object
use Rattle.gate_model.specs.declared.comments.Comment.{Comment}
use Rattle.gate_model.specs.declared.comments.CommentEvent.{CommentEvent}
use Rattle.gate_model.specs.declared.comments.CommentEvent.TheVariants.{Add, Delete, DeleteAll, Clear, Gone}
use Rattle.gate_model.specs.declared.downtime.Scheduled.{Scheduled}
use Rattle.gate_model.specs.declared.downtime.DowntimeEvent.{DowntimeEvent}
use Rattle.gate_model.specs.declared.downtime.DowntimeEvent.TheVariants as downtime
use Rattle.gate_model.specs.Record.{is_accepted}
use Rattle.gate_model.specs.Status.{is_transition, is_clearing}
use Rattle.gate_model.specs.Comments.{removes, unless_removed, comment_made, comments_left}
use Rattle.gate_model.specs.Downtime.{scheduled_in}
use Rattle.gate_model.specs.Table.{object_of, services_of}
use Rattle.gate_model.specs.Meaning.{Judged, object_event_of_deed, object_events, transition_by, plan_of, clearing_by, addition_of_entry, next_entry, downtime_events_of_deed, downtime_events_of, downtime_events_of_record, downtime_events, comment_events_of_deed, comment_events_of, comment_events_of_record, comment_events}
use Rattle.status_reading.proofs.EachSteps.{each_append, each_reverse, each_map, each_option, each_found, some_if}

all_if : {A : Type 0} (P : A → Type 0) (test : Bool) (list : List A) → AllByRecursion P list → AllByRecursion P (if test then list else [])
all_if P true list all = all
all_if P false list all = tt

-- where it holds of each object that names find, and of the services of each host
module _ (table : List ObjectLine) (P : ObjectId → Type 0)
    (object_is : (host : List ℕ) (service : Option (List ℕ)) → IfSome (object_of table host service) P)
    (services_are : (host : List ℕ) → AllByRecursion P (services_of table host)) where
  -- ---- comments

  -- what is added is of an object of the table
  abbrev Adds : CommentEvent → Type 0
  Adds (Add found from persistent log_index) = P found
  Adds _ = Unit {0}

  cleared : (before : List ObjectEvent) (event : Option ObjectEvent) → IfSome (clearing_by before event) Adds
  cleared before (Some (object.Result place state moment log_index)) =
      some_if Adds (is_clearing place (object.Result place state moment log_index) before) (Clear place) tt
  cleared before (Some (object.RemoveAck place)) = some_if Adds (is_clearing place (object.RemoveAck place) before) (Clear place) tt
  cleared before _ = tt

  added_each : (log_index entry : ℕ) (services : List ObjectId) → AllByRecursion P services
      → AllByRecursion Adds (map (addition_of_entry log_index) (enumerate_from entry services))
  added_each log_index entry [] all = tt
  added_each log_index entry (one ∷ services) all = (all.0, added_each log_index (entry + 1) services all.1)

  deed_adds : (before : List ObjectEvent) (entry : ℕ) (moment : Moment) (log_index : ℕ) (deed : Deed) (found : ObjectId) → P found
      → AllByRecursion Adds (comment_events_of_deed before entry moment log_index deed found)
  deed_adds before entry moment log_index (deeds.AddComment persistent) found here = (here, tt)
  deed_adds before entry moment log_index (deeds.Acknowledge sticky persistent) found here = (here, tt)
  deed_adds before entry moment log_index (deeds.Schedule span) found here = (here, tt)
  deed_adds before entry moment log_index deeds.DelAllComments found here = (tt, tt)
  deed_adds before entry moment log_index deed found here =
      let event = object_event_of_deed moment log_index deed found in
      each_option Adds (clearing_by before event) (cleared before event)

  act_adds : (before : List ObjectEvent) (entry : ℕ) (moment : Moment) (log_index : ℕ) (act : Act)
      → AllByRecursion Adds (comment_events_of table before entry moment log_index act)
  act_adds before entry moment log_index (acts.On host service deed) =
      each_found P Adds (comment_events_of_deed before entry moment log_index deed) (deed_adds before entry moment log_index deed)
      (object_of table host service) (object_is host service)
  act_adds before entry moment log_index (acts.ScheduleServices host span) =
      each_reverse Adds _ (added_each log_index entry (services_of table host) (services_are host))
  act_adds before entry moment log_index (acts.DelComment kind id) = (tt, tt)
  act_adds before entry moment log_index act = tt

  events_add : (judgements : List Judged) → AllByRecursion Adds (comment_events table judgements)
  events_add [] = tt
  events_add (judgement ∷ before) =
      let act = act_of judgement.applied.item.body in
      each_append Adds (comment_events_of_record table before judgement) (comment_events table before)
      (all_if Adds (is_accepted judgement.outcome) _
      (act_adds (object_events table before) (next_entry table before) judgement.applied.moment judgement.log_index act))
      (events_add before)

  kept_one : (removed : Bool) (comment : Comment) → P comment.object
      → AllByRecursion (λ (one : Comment). P one.object) (if removed then [] else comment ∷ [])
  kept_one true comment here = tt
  kept_one false comment here = (here, tt)

  left_each : (first : ℕ) (later history : List CommentEvent) → AllByRecursion Adds history
      → AllByRecursion (λ (one : Comment). P one.object) (comments_left first later history)
  left_each first later [] all = tt
  left_each first later (Add found from persistent log_index ∷ before) all =
      let comment = comment_made first before found from persistent log_index in
      let more = Add found from persistent log_index ∷ later in
      each_append (λ (one : Comment). P one.object) (comments_left first more before) (unless_removed later comment)
      (left_each first more before all.1)
      (kept_one (list_any (λ event. removes event comment) later) comment all.0)
  left_each first later (Delete id ∷ before) all = left_each first (Delete id ∷ later) before all.1
  left_each first later (DeleteAll place ∷ before) all = left_each first (DeleteAll place ∷ later) before all.1
  left_each first later (Clear place ∷ before) all = left_each first (Clear place ∷ later) before all.1
  left_each first later (Gone id ∷ before) all = left_each first (Gone id ∷ later) before all.1

  pub comments_each : (judgements : List Judged)
      → AllByRecursion (λ (one : Comment). P one.object) (comments_left 1 [] (comment_events table judgements))
  comments_each judgements = left_each 1 [] (comment_events table judgements) (events_add judgements)

  -- ---- downtime entries

  -- what is scheduled is of an object of the table
  abbrev Schedules : DowntimeEvent → Type 0
  Schedules (downtime.Schedule moment found plan) = P found
  Schedules _ = Unit {0}

  transition_made : (before : List ObjectEvent) (event : Option ObjectEvent) → IfSome (transition_by before event) Schedules
  transition_made before (Some (object.Result place state moment log_index)) =
      some_if Schedules (is_transition place (object.Result place state moment log_index) before) (downtime.Transition moment place) tt
  transition_made before _ = tt

  deed_schedules : (before : List ObjectEvent) (moment : Moment) (log_index : ℕ) (deed : Deed) (found : ObjectId) → P found
      → AllByRecursion Schedules (downtime_events_of_deed before moment log_index deed found)
  deed_schedules before moment log_index (deeds.Schedule span) found here = (here, tt)
  deed_schedules before moment log_index deed found here =
      let event = object_event_of_deed moment log_index deed found in
      each_option Schedules (transition_by before event) (transition_made before event)

  act_schedules : (before : List ObjectEvent) (moment : Moment) (log_index : ℕ) (act : Act)
      → AllByRecursion Schedules (downtime_events_of table before moment log_index act)
  act_schedules before moment log_index (acts.On host service deed) =
      each_found P Schedules (downtime_events_of_deed before moment log_index deed) (deed_schedules before moment log_index deed)
      (object_of table host service) (object_is host service)
  act_schedules before moment log_index (acts.ScheduleServices host span) =
      each_reverse Schedules _
      (each_map P Schedules (λ service. downtime.Schedule moment service (plan_of span log_index)) (λ service here. here) (services_of table host) (services_are host))
  act_schedules before moment log_index (acts.DelDowntime kind id) = (tt, tt)
  act_schedules before moment log_index act = tt

  events_schedule : (judgements : List Judged) → AllByRecursion Schedules (downtime_events table judgements)
  events_schedule [] = tt
  events_schedule (judgement ∷ before) =
      let act = act_of judgement.applied.item.body in
      each_append Schedules (downtime_events_of_record table before judgement) (downtime_events table before)
      (all_if Schedules (is_accepted judgement.outcome) _
      (act_schedules (object_events table before) judgement.applied.moment judgement.log_index act))
      (events_schedule before)

  in_each : (events : List DowntimeEvent) → AllByRecursion Schedules events
      → AllByRecursion (λ (one : Scheduled). P one.object) (scheduled_in 1 events)
  in_each [] all = tt
  in_each (downtime.Schedule moment found plan ∷ before) all = (all.0, in_each before all.1)
  in_each (downtime.Delete moment id ∷ before) all = in_each before all.1
  in_each (downtime.Transition moment place ∷ before) all = in_each before all.1

  pub scheduled_each : (judgements : List Judged)
      → AllByRecursion (λ (one : Scheduled). P one.object) (scheduled_in 1 (downtime_events table judgements))
  scheduled_each judgements = in_each (downtime_events table judgements) (events_schedule judgements)
