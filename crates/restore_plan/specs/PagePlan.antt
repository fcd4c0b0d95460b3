-- What becomes of the rows of a kept status page, where there is no log: `object_fates`, `page_others`. As in Fates,
-- `fresh` is the object table of the fresh gateway, and `now` the present moment; as in Entries, `until` is the moment by
-- which all is applied. A page shows no return code, so that of a result is the least of its state. Own rules.
use Rattle.std.specs.Prelude.{ℕ, ℤ, pos, ◌+◌, not, ◌&&◌, ◌||◌, Bool, true, false, List, [], ◌∷◌, ◌++◌, take, drop, map, filter_map, find, Option, Some, None, is_some, option_map, Result, if◌then◌else◌}
use Rattle.std.specs.List.{list_any, position_from}
use Rattle.std.specs.Str.{bytes_eq}
use Rattle.gate_model.specs.declared.record.Moment.{Moment}
use Rattle.gate_model.specs.declared.object.ObjectId.{ObjectId}
use Rattle.gate_model.specs.declared.object.ObjectLine.{ObjectLine}
use Rattle.gate_model.specs.declared.downtime.Plan.{Plan}
use Rattle.gate_model.specs.declared.state.State.{State}
use Rattle.gate_model.specs.declared.state.State.TheVariants.{Pending, Ok, Warning, Critical, Unknown, Up, Down, Unreachable}
use Rattle.gate_model.specs.declared.submission.Body.{Body}
use Rattle.gate_model.specs.declared.submission.Body.TheVariants as bodies
use Rattle.gate_model.specs.Table.{object_of}
use Rattle.status_reading.specs.declared.page.StatusPage.{StatusPage}
use Rattle.status_reading.specs.declared.rows.ShownObject.{ShownObject}
use Rattle.status_reading.specs.declared.rows.ShownComment.{ShownComment}
use Rattle.status_reading.specs.declared.rows.ShownDowntime.{ShownDowntime}
use Rattle.status_reading.specs.declared.rows.ShownSource.{ShownSource}
use Rattle.status_reading.specs.declared.rows.ShownSource.TheVariants as source
use Rattle.status_reading.specs.declared.rows.ShownAcknowledgement.{ShownAcknowledgement}
use Rattle.status_reading.specs.declared.rows.ShownAcknowledgement.TheVariants.{Missing, Normal, Sticky}
use Rattle.status_reading.specs.Plain.{plain_bytes}
use Rattle.restore_plan.specs.declared.entries.Terms.{Terms}
use Rattle.restore_plan.specs.declared.page_plan.RowRenewal.{RowRenewal}
use Rattle.restore_plan.specs.declared.fates.Fate.{Fate}
use Rattle.restore_plan.specs.declared.fates.Fate.TheVariants.{Left}
use Rattle.restore_plan.specs.declared.fates.Cause.{Cause}
use Rattle.restore_plan.specs.declared.fates.Cause.TheVariants.{TooOld}
use Rattle.restore_plan.specs.Fates.{sent_to, threshold_of, is_outdated}
use Rattle.restore_plan.specs.Entries.{renewed_terms, with_id, fate_on}

-- the name of a service that a field shows; a host's is empty
abbrev pub plain_service : List ℕ → Option (List ℕ)
plain_service [] = None
plain_service (byte ∷ field) = Some (plain_bytes (byte ∷ field))

-- the fresh gateway's object of these fields
abbrev pub object_of_fields : List ObjectLine → List ℕ → List ℕ → Option ObjectId
object_of_fields fresh host service = object_of fresh (plain_bytes host) (plain_service service)

-- ---- objects

-- the least return code that means the state
abbrev pub code_of : State → Option ℤ
code_of Pending = None
code_of Ok = Some (pos 0)
code_of Up = Some (pos 0)
code_of Warning = Some (pos 1)
code_of Down = Some (pos 1)
code_of Critical = Some (pos 2)
code_of Unreachable = Some (pos 2)
code_of Unknown = Some (pos 3)

-- the last result of a row's object, with this code
abbrev pub result_of : ShownObject → ℤ → Body
result_of row code =
    bodies.Result (plain_bytes row.host.now) (plain_service row.service.now) code (plain_bytes row.output.now)

-- the fate of an object's row with this code and this moment of its last result
abbrev pub fate_of_object : List ObjectLine → Moment → ShownObject → Option ℤ → Option ℕ → Option Fate
fate_of_object fresh now row (Some code) (Some last) =
    Some (
    if is_outdated (threshold_of fresh (object_of_fields fresh row.host.now row.service.now)) (record { 0 = last }) now
    then Left TooOld (result_of row code)
    else sent_to (object_of_fields fresh row.host.now row.service.now) (result_of row code)
    )
fate_of_object fresh now row _ _ = None

-- the fate of an object's row, unless it is PENDING
abbrev pub object_fate : List ObjectLine → Moment → ShownObject → Option Fate
object_fate fresh now row = fate_of_object fresh now row (code_of row.state) row.last

-- the fates of the results of these rows, in their order
abbrev pub object_fates : List ObjectLine → Moment → List ShownObject → List Fate
object_fates fresh now rows = filter_map (object_fate fresh now) rows

-- ---- comments

-- the row is that of the object of these fields
abbrev pub has_fields : List ℕ → List ℕ → ShownObject → Bool
has_fields host service row = bytes_eq row.host.now host && bytes_eq row.service.now service

-- there is no result, or it is outdated
abbrev pub has_no_result : ℕ → Moment → Option ℕ → Bool
has_no_result threshold now None = true
has_no_result threshold now (Some last) = is_outdated threshold (record { 0 = last }) now

-- how the object of this row and this threshold is acknowledged, where its result is sent
abbrev pub mark_in : ℕ → Moment → ShownObject → ShownAcknowledgement
mark_in threshold now row = if has_no_result threshold now row.last then Missing else row.acknowledgement

-- how the object of this comment and this threshold is acknowledged
abbrev pub mark_of : ℕ → Moment → List ShownObject → ShownComment → Option ShownAcknowledgement
mark_of threshold now objects row =
    option_map (mark_in threshold now) (find (has_fields row.host.now row.service.now) objects)

-- the comment is of an acknowledgement
abbrev pub is_of_acknowledgement : ShownSource → Bool
is_of_acknowledgement source.Acknowledgement = true
is_of_acknowledgement source.User = false
is_of_acknowledgement source.Downtime = false

-- one of these comments is of an acknowledgement of the same object
abbrev pub has_acknowledgement : ShownComment → List ShownComment → Bool
has_acknowledgement row later =
    list_any
    (λ (one : ShownComment). is_of_acknowledgement one.source && bytes_eq one.host.now row.host.now
    && bytes_eq one.service.now row.service.now)
    later

-- how the comment acknowledges its object, if it is the last one that does
abbrev pub mark_by : ℕ → Moment → List ShownObject → ShownComment → List ShownComment → Option ShownAcknowledgement
mark_by threshold now objects row later =
    if not (is_of_acknowledgement row.source) || has_acknowledgement row later then None
    else mark_of threshold now objects row

-- a flag of a command
abbrev pub number : Bool → ℕ
number flag = if flag then 1 else 0

-- an acknowledgement with this number for `sticky`
abbrev pub acknowledgement_body : ShownComment → ℕ → Body
acknowledgement_body row sticky =
    bodies.Acknowledge (plain_bytes row.host.now) (plain_service row.service.now) sticky 0 (number row.persistent)
    (plain_bytes row.author.now) (plain_bytes row.text.now)

-- a user's comment
abbrev pub user_body : ShownComment → Body
user_body row =
    bodies.AddComment (plain_bytes row.host.now) (plain_service row.service.now) (number row.persistent)
    (plain_bytes row.author.now) (plain_bytes row.text.now)

-- the command that brings the comment again: an acknowledgement that is in force, or a user's comment
abbrev pub comment_body : Option ShownAcknowledgement → ShownComment → Body
comment_body (Some Normal) row = acknowledgement_body row 1
comment_body (Some Sticky) row = acknowledgement_body row 2
comment_body (Some Missing) row = user_body row
comment_body None row = user_body row

-- the fate of a comment that is of no downtime, before these comments; its object on the fresh gateway is known
abbrev pub fate_at : List ObjectLine → Moment → List ShownObject → ShownComment → List ShownComment → Option ObjectId → Fate
fate_at fresh now objects row later object =
    sent_to object (comment_body (mark_by (threshold_of fresh object) now objects row later) row)

-- the same, by its fields
abbrev pub comment_row_fate : List ObjectLine → Moment → List ShownObject → ShownComment → List ShownComment → Fate
comment_row_fate fresh now objects row later =
    fate_at fresh now objects row later (object_of_fields fresh row.host.now row.service.now)

-- ---- downtime

-- what the entry's command asked for
abbrev pub plan_of_row : ShownDowntime → Plan
plan_of_row row = record {
  starts = record { 0 = row.start };
  ends = record { 0 = row.end };
  fixed = row.fixed;
  trigger = row.trigger;
  lasts = row.duration;
  log_index = 0;
}

-- the terms of an entry after the entries of these ids
abbrev pub row_terms : List ObjectLine → Moment → Moment → List ℕ → ShownDowntime → Result Terms Cause
row_terms fresh now until sent row =
    renewed_terms now until sent (is_some (object_of_fields fresh row.host.now row.service.now)) (plan_of_row row) row.begin

-- entries with their terms, after the entries of these ids
abbrev pub row_renewals_from : List ObjectLine → Moment → Moment → List ℕ → List ShownDowntime → List RowRenewal
row_renewals_from fresh now until sent [] = []
row_renewals_from fresh now until sent (row ∷ rows) =
    record { row = row; terms = row_terms fresh now until sent row }
    ∷ row_renewals_from fresh now until (with_id sent row.id (row_terms fresh now until sent row)) rows

-- the entries of a page, ids ascending, with their terms
abbrev pub row_renewals_of : List ObjectLine → Moment → Moment → List ShownDowntime → List RowRenewal
row_renewals_of fresh now until rows = row_renewals_from fresh now until [] rows

-- the line of the entry's object
abbrev pub line_of_row : ShownDowntime → ObjectLine
line_of_row row =
    record { host = plain_bytes row.host.now; service = plain_service row.service.now; threshold = 0 }

-- the fate of an entry, by its terms
abbrev pub row_fate : RowRenewal → Fate
row_fate one =
    fate_on (line_of_row one.row) (plan_of_row one.row) one.terms (plain_bytes one.row.author.now)
    (plain_bytes one.row.text.now)

-- ---- the order of comments

-- the comment is that of the entry
abbrev pub is_entry_of : ShownComment → RowRenewal → Bool
is_entry_of row one =
    bytes_eq one.row.host.now row.host.now && bytes_eq one.row.service.now row.service.now
    && bytes_eq one.row.author.now row.author.now && bytes_eq one.row.text.now row.text.now

-- the index of the first of these entries whose comment it is
abbrev pub entry_index : ShownComment → List RowRenewal → Option ℕ
entry_index row entries = position_from (is_entry_of row) 0 entries

-- the comment is of a downtime entry
abbrev pub is_of_downtime : ShownSource → Bool
is_of_downtime source.Downtime = true
is_of_downtime source.User = false
is_of_downtime source.Acknowledgement = false

-- how many entries there are up to this index
abbrev pub up_to : Option ℕ → ℕ
up_to None = 0
up_to (Some index) = index + 1

-- how many of these entries stand before the comment, with its own
abbrev pub taken_by : ShownComment → List RowRenewal → ℕ
taken_by row left = if not (is_of_downtime row.source) then 0 else up_to (entry_index row left)

-- the fate of a comment, unless it is of downtime: that one is made with its entry
abbrev pub own_fates : List ObjectLine → Moment → List ShownObject → ShownComment → List ShownComment → List Fate
own_fates fresh now objects row later =
    if is_of_downtime row.source then [] else comment_row_fate fresh now objects row later ∷ []

-- comments and the entries that are left, in the order of the comments: an entry stands where its comment does, after
-- those before it
abbrev pub others_among : List ObjectLine → Moment → List ShownObject → List ShownComment → List RowRenewal → List Fate
others_among fresh now objects [] left = map row_fate left
others_among fresh now objects (row ∷ rows) left =
    map row_fate (take (taken_by row left) left)
    ++ own_fates fresh now objects row rows
    ++ others_among fresh now objects rows (drop (taken_by row left) left)

-- the fates of all comments and entries of a page
abbrev pub page_others : List ObjectLine → Moment → Moment → StatusPage → List Fate
page_others fresh now until page =
    others_among fresh now page.objects.items page.comments.items
    (row_renewals_of fresh now until page.downtimes.items)
