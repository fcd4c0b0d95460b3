-- On which terms the downtime entries of a kept gateway are scheduled again, and why some aren't: `renewals_of`, and the
-- fate of each by that: `entry_fate`. An entry is scheduled again as it was
-- planned. One that has begun otherwise than at its start, by a transition or a trigger, is scheduled as fixed, from its
-- beginning to its end. `until` is the moment by which all is applied: what is over by then isn't sent. Own rules.
use Rattle.std.specs.Prelude.{ℕ, ◌+◌, ◌==◌, nat_lt, nat_le, min, max, not, ◌&&◌, ◌||◌, Bool, true, false, List, [], ◌∷◌, ◌++◌, slice_get, Option, Some, None, option_map, is_some, Result, Ok, Err, if◌then◌else◌}
use Rattle.std.specs.List.{position_from}
use Rattle.std.specs.Option.{option_and_then}
use Rattle.gate_model.specs.declared.record.Moment.{Moment}
use Rattle.gate_model.specs.declared.object.ObjectId.{ObjectId}
use Rattle.gate_model.specs.declared.object.ObjectLine.{ObjectLine}
use Rattle.gate_model.specs.declared.record.Record.{Record}
use Rattle.gate_model.specs.declared.downtime.Plan.{Plan}
use Rattle.gate_model.specs.declared.submission.Body.{Body}
use Rattle.gate_model.specs.declared.submission.Body.TheVariants.{Schedule, ScheduleServices}
use Rattle.gate_model.specs.Downtime.{is_begun_by}
use Rattle.gate_model.specs.Table.{object_of}
use Rattle.gate_model.specs.Meaning.{LiveEntry, downtimes_at}
use Rattle.gate_applier.specs.Applier.{ApplierView}
use Rattle.restore_plan.specs.declared.entries.Terms.{Terms}
use Rattle.restore_plan.specs.declared.entries.Renewal.{Renewal}
use Rattle.restore_plan.specs.declared.fates.Fate.{Fate}
use Rattle.restore_plan.specs.declared.fates.Fate.TheVariants.{Sent, Left}
use Rattle.restore_plan.specs.declared.fates.Cause.{Cause}
use Rattle.restore_plan.specs.declared.fates.Cause.TheVariants.{NoSuchObject, Over, NoTrigger}

-- ---- ids

-- the object of this line's names on the fresh gateway
abbrev pub object_of_line : List ObjectLine → Option ObjectLine → Option ObjectId
object_of_line fresh None = None
object_of_line fresh (Some line) = object_of fresh line.host line.service

-- the fresh gateway has the object that the kept gateway's has at this place
abbrev pub is_known : List ObjectLine → List ObjectLine → ℕ → Bool
is_known fresh table place = is_some (object_of_line fresh (slice_get table place))

-- the id of the entry that is sent at this index, which has 32 bits: a fresh gateway gives 1 to the first
abbrev pub id_at : ℕ → Option ℕ
id_at index = if nat_lt index 4294967295 then Some (index + 1) else None

-- the index of this id among these
abbrev pub index_of : ℕ → List ℕ → Option ℕ
index_of id ids = position_from (λ (one : ℕ). one == id) 0 ids

-- the id on the fresh gateway of an entry, where the entries of these ids are sent, in this order
abbrev pub new_id : List ℕ → ℕ → Option ℕ
new_id sent id = option_and_then id_at (index_of id sent)

-- ---- terms

-- the entry is fixed, and waits for no trigger
abbrev pub is_plain : Plan → Bool
is_plain plan = plan.fixed && (plan.trigger == 0)

-- the end of an entry that began then; moments have 32 bits
abbrev pub end_since : Plan → ℕ → Moment
end_since plan begin = if plan.fixed then plan.ends else record { 0 = min (begin + plan.lasts) 4294967295 }

-- from this beginning to the entry's end, as fixed downtime
abbrev pub since : Plan → ℕ → Terms
since plan begin = record {
  starts = record { 0 = begin };
  ends = end_since plan begin;
  fixed = 1;
  trigger = 0;
  lasts = plan.lasts;
}

-- as it was planned, with this trigger
abbrev pub as_planned : Plan → ℕ → Terms
as_planned plan trigger = record {
  starts = plan.starts;
  ends = plan.ends;
  fixed = if plan.fixed then 1 else 0;
  trigger = trigger;
  lasts = plan.lasts;
}

-- as it was planned, with the new id of its trigger, where it has one
abbrev pub unbegun_terms : Option ℕ → Plan → Option Terms
unbegun_terms trigger plan =
    if plan.trigger == 0 then Some (as_planned plan 0) else option_map (as_planned plan) trigger

-- the terms of an entry, given the new id of its trigger, its plan and its beginning
abbrev pub terms_of : Moment → Option ℕ → Plan → Option ℕ → Option Terms
terms_of now trigger plan begin =
    if not (is_begun_by now.0 begin) || is_plain plan then unbegun_terms trigger plan
    else option_map (since plan) begin

-- a flexible entry of no duration that waits for a trigger: it is over as soon as it begins
abbrev pub is_momentary : Terms → Bool
is_momentary terms = not (terms.trigger == 0) && not (terms.fixed == 1) && (terms.lasts == 0)

-- the window is empty, or over by this moment, or the entry is as soon as it begins
abbrev pub is_over : Moment → Terms → Bool
is_over until terms = nat_le terms.ends.0 (max terms.starts.0 until.0) || is_momentary terms

-- the terms, unless their window is over by then
abbrev pub terms_until : Moment → Option Terms → Result Terms Cause
terms_until until None = Err NoTrigger
terms_until until (Some terms) = if is_over until terms then Err Over else Ok terms

-- the terms on which an entry is scheduled again after the entries of these ids, or why it isn't
abbrev pub renewed_terms : Moment → Moment → List ℕ → Bool → Plan → Option ℕ → Result Terms Cause
renewed_terms now until sent known plan begin =
    if not known then Err NoSuchObject
    else terms_until until (terms_of now (new_id sent plan.trigger) plan begin)

-- ---- all entries

-- the ids that are sent, with this one
abbrev pub with_id : List ℕ → ℕ → Result Terms Cause → List ℕ
with_id sent id (Ok terms) = sent ++ id ∷ []
with_id sent id (Err cause) = sent

-- the command schedules downtime
abbrev pub is_schedule : Body → Bool
is_schedule (Schedule host service starts ends fixed trigger lasts author text) = true
is_schedule (ScheduleServices host starts ends fixed trigger lasts author text) = true
is_schedule _ = false

-- there is a record, and it schedules downtime
abbrev pub has_schedule : Option Record → Bool
has_schedule None = false
has_schedule (Some applied) = is_schedule applied.item.body

-- the fresh gateway has the object of a live entry, and a record scheduled it
abbrev pub can_be_sent : List ObjectLine → ApplierView → LiveEntry → Bool
can_be_sent fresh kept one =
    is_known fresh kept.table one.scheduled.object.place
    && has_schedule (slice_get kept.records one.scheduled.plan.log_index)

-- the terms of a live entry after the entries of these ids
abbrev pub live_terms : List ObjectLine → ApplierView → Moment → List ℕ → LiveEntry → Result Terms Cause
live_terms fresh kept until sent one =
    renewed_terms kept.moment until sent (can_be_sent fresh kept one) one.scheduled.plan one.begin

-- live entries with their terms, after the entries of these ids
abbrev pub renewals_from : List ObjectLine → ApplierView → Moment → List ℕ → List LiveEntry → List Renewal
renewals_from fresh kept until sent [] = []
renewals_from fresh kept until sent (one ∷ rest) =
    record { entry = one; terms = live_terms fresh kept until sent one }
    ∷ renewals_from fresh kept until (with_id sent one.scheduled.id (live_terms fresh kept until sent one)) rest

-- the live entries of a kept gateway, ids ascending, with their terms
abbrev pub renewals_of : List ObjectLine → ApplierView → Moment → List Renewal
renewals_of fresh kept until =
    renewals_from fresh kept until [] (downtimes_at kept.table kept.records kept.moment)

-- ---- fates

-- downtime for the object of this line on these terms
abbrev pub schedule : ObjectLine → Terms → List ℕ → List ℕ → Body
schedule line terms author text =
    Schedule line.host line.service terms.starts terms.ends terms.fixed terms.trigger terms.lasts author text

-- the fate of an entry of the object of this line, by its terms: one that isn't scheduled again is named as it was planned
abbrev pub fate_on : ObjectLine → Plan → Result Terms Cause → List ℕ → List ℕ → Fate
fate_on line plan (Ok terms) author text = Sent (schedule line terms author text)
fate_on line plan (Err cause) author text =
    Left cause (schedule line (as_planned plan plan.trigger) author text)

-- the fate of an entry of the object of this line, by the command that scheduled it
abbrev pub fate_by : ObjectLine → Plan → Result Terms Cause → Body → Option Fate
fate_by line plan terms (Schedule host service starts ends fixed trigger lasts author text) =
    Some (fate_on line plan terms author text)
fate_by line plan terms (ScheduleServices host starts ends fixed trigger lasts author text) =
    Some (fate_on line plan terms author text)
fate_by line plan terms _ = None

-- the fate of an entry of this object, by its record
abbrev pub fate_in : Option ObjectLine → Plan → Result Terms Cause → Option Record → Option Fate
fate_in (Some line) plan terms (Some applied) = fate_by line plan terms applied.item.body
fate_in (Some line) plan terms None = None
fate_in None plan terms applied = None

-- the fate of an entry; each has an object and a record
abbrev pub entry_fate : ApplierView → Renewal → Option Fate
entry_fate kept one =
    fate_in (slice_get kept.table one.entry.scheduled.object.place) one.entry.scheduled.plan one.terms
    (slice_get kept.records one.entry.scheduled.plan.log_index)
