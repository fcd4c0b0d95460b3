-- What becomes of a record of a kept log on a fresh gateway (`fresh` is its object table): the command that is sent for
-- what still stands of it, or the cause why none is. `kept` is an applier of the kept records at the present moment, and
-- `index` the record's index among them, from 0. Here are the fates of results, comments, acknowledgements and settings:
-- `result_fate`, `comment_fate`, `acknowledgement_fate`, `setting_fate`; Entries has downtime. Own rules.
use Rattle.std.specs.Prelude.{ℕ, ℤ, ◌-◌, ◌==◌, nat_lt, not, ◌&&◌, ◌||◌, Bool, false, List, slice_get, Option, Some, None, if◌then◌else◌}
use Rattle.std.specs.List.{list_any}
use Rattle.std.specs.Option.{option_and_then}
use Rattle.gate_model.specs.declared.record.Moment.{Moment}
use Rattle.gate_model.specs.declared.object.ObjectId.{ObjectId}
use Rattle.gate_model.specs.declared.object.ObjectLine.{ObjectLine}
use Rattle.gate_model.specs.declared.submission.Body.{Body}
use Rattle.gate_model.specs.declared.submission.Body.TheVariants.{Result, AddComment, Acknowledge, Passive}
use Rattle.gate_model.specs.declared.status.CheckResult.{CheckResult}
use Rattle.gate_model.specs.declared.status.Acknowledgement.{Acknowledgement}
use Rattle.gate_model.specs.declared.comments.Comment.{Comment}
use Rattle.gate_model.specs.Table.{object_of}
use Rattle.gate_model.specs.Meaning.{last_result_at, acknowledgement_at, is_passive_at, comments_at}
use Rattle.gate_applier.specs.Applier.{ApplierView}
use Rattle.restore_plan.specs.declared.fates.Fate.{Fate}
use Rattle.restore_plan.specs.declared.fates.Fate.TheVariants.{Sent, Left}
use Rattle.restore_plan.specs.declared.fates.Cause.TheVariants.{NoSuchObject, TooOld}

-- ---- what stands

-- the last result of the object of these names
abbrev pub last_of : ApplierView → List ℕ → Option (List ℕ) → Option CheckResult
last_of kept host service =
    option_and_then
    (λ (object : ObjectId). last_result_at kept.table kept.records object.place)
    (object_of kept.table host service)

-- the acknowledgement that is in force for the object of these names
abbrev pub acknowledgement_of : ApplierView → List ℕ → Option (List ℕ) → Option Acknowledgement
acknowledgement_of kept host service =
    option_and_then
    (λ (object : ObjectId). acknowledgement_at kept.table kept.records object.place)
    (object_of kept.table host service)

-- passive checks of this object are disabled
abbrev pub is_object_disabled : ApplierView → Option ObjectId → Bool
is_object_disabled kept None = false
is_object_disabled kept (Some object) = not (is_passive_at kept.table kept.records object.place)

-- passive checks of the object of these names are disabled
abbrev pub is_disabled : ApplierView → List ℕ → Option (List ℕ) → Bool
is_disabled kept host service = is_object_disabled kept (object_of kept.table host service)

-- one of these comments was made by the record of this index
abbrev pub has_comment : ℕ → List Comment → Bool
has_comment index comments = list_any (λ (one : Comment). one.log_index == index) comments

-- the comments that stand
abbrev pub comments_in : ApplierView → List Comment
comments_in kept = comments_at kept.table kept.records kept.moment

-- ---- what is sent

-- the command is sent where the fresh gateway has its object
abbrev pub sent_to : Option ObjectId → Body → Fate
sent_to None body = Left NoSuchObject body
sent_to (Some object) body = Sent body

-- the freshness threshold of a line, in seconds
abbrev pub threshold_in : Option ObjectLine → ℕ
threshold_in None = 0
threshold_in (Some line) = line.threshold

-- that of an object; 0 is none
abbrev pub threshold_of : List ObjectLine → Option ObjectId → ℕ
threshold_of table None = 0
threshold_of table (Some object) = threshold_in (slice_get table object.place)

-- more seconds than the threshold, which isn't 0, have passed since this moment
abbrev pub is_outdated : ℕ → Moment → Moment → Bool
is_outdated threshold moment now = nat_lt 0 threshold && nat_lt threshold (now.0 - moment.0)

-- there is a result, and it is outdated
abbrev pub last_is_outdated : List ObjectLine → Moment → Option ObjectId → Option CheckResult → Bool
last_is_outdated fresh now object None = false
last_is_outdated fresh now object (Some last) = is_outdated (threshold_of fresh object) last.moment now

-- ---- results

-- the fate of a result, given the last result of its object: only the last one stands
abbrev pub fate_of_result : List ObjectLine → Moment → ℕ → Option CheckResult → List ℕ → Option (List ℕ) → ℤ → List ℕ → Option Fate
fate_of_result fresh now index None host service code output = None
fate_of_result fresh now index (Some last) host service code output =
    if not (last.log_index == index) then None
    else (if is_outdated (threshold_of fresh (object_of fresh host service)) last.moment now
    then Some (Left TooOld (Result host service code output))
    else Some (sent_to (object_of fresh host service) (Result host service code output)))

-- the fate of the result of this object, with this code and output
abbrev pub result_fate : List ObjectLine → ApplierView → ℕ → List ℕ → Option (List ℕ) → ℤ → List ℕ → Option Fate
result_fate fresh kept index host service code output =
    fate_of_result fresh kept.moment index (last_of kept host service) host service code output

-- ---- comments and acknowledgements

-- the fate of a comment on this object: it is sent as it was, where it stands
abbrev pub comment_fate : List ObjectLine → ApplierView → ℕ → List ℕ → Option (List ℕ) → ℕ → List ℕ → List ℕ → Option Fate
comment_fate fresh kept index host service persistent author text =
    if not (has_comment index (comments_in kept)) then None
    else Some (sent_to (object_of fresh host service) (AddComment host service persistent author text))

-- the record made this acknowledgement, and the result that it acknowledges isn't outdated
abbrev pub is_made_by : ℕ → Bool → Option Acknowledgement → Bool
is_made_by index outdated None = false
is_made_by index outdated (Some made) = (made.log_index == index) && not outdated

-- the record made the acknowledgement that is in force for this object, and its result is sent
abbrev pub is_in_force : List ObjectLine → ApplierView → ℕ → List ℕ → Option (List ℕ) → Bool
is_in_force fresh kept index host service =
    is_made_by index
    (last_is_outdated fresh kept.moment (object_of fresh host service) (last_of kept host service))
    (acknowledgement_of kept host service)

-- the fate of an acknowledgement: it is sent as it was, where it is in force; otherwise its comment is, where that stands
abbrev pub acknowledgement_fate : List ObjectLine → ApplierView → ℕ → List ℕ → Option (List ℕ) → ℕ → ℕ → ℕ → List ℕ → List ℕ → Option Fate
acknowledgement_fate fresh kept index host service sticky notify persistent author text =
    if not (is_in_force fresh kept index host service)
    then comment_fate fresh kept index host service persistent author text
    else Some (
    sent_to (object_of fresh host service)
    (Acknowledge host service sticky notify persistent author text)
    )

-- ---- settings

-- the fate of a setting: it is sent where it disabled passive checks, and they still are
abbrev pub setting_fate : List ObjectLine → ApplierView → List ℕ → Option (List ℕ) → Bool → Option Fate
setting_fate fresh kept host service on =
    if on || not (is_disabled kept host service) then None
    else Some (sent_to (object_of fresh host service) (Passive host service false))
