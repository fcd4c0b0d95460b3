-- What is other on a status page than on one that was read before it: `changed`. Own rule. Two pages of one table have
-- the same objects in the same order; pages of others are not compared object by object.
use Rattle.std.specs.Prelude.{ℕ, ◌==◌, ◌&&◌, not, Bool, true, false, List, [], ◌∷◌, ◌++◌, map, filter, Option, Some, None, if◌then◌else◌}
use Rattle.std.specs.List.{list_any, flat_map, zip}
use Rattle.std.specs.Str.{bytes_eq}
use Rattle.gate_model.specs.State.{is_same_state}
use Rattle.status_reading.specs.declared.rows.ShownAcknowledgement.{ShownAcknowledgement}
use Rattle.status_reading.specs.declared.rows.ShownAcknowledgement.TheVariants.{Missing, Normal, Sticky}
use Rattle.status_reading.specs.declared.rows.ShownSource.{ShownSource}
use Rattle.status_reading.specs.declared.rows.ShownSource.TheVariants as source
use Rattle.status_reading.specs.declared.rows.ShownObject.{ShownObject}
use Rattle.status_reading.specs.declared.rows.ShownComment.{ShownComment}
use Rattle.status_reading.specs.declared.rows.ShownDowntime.{ShownDowntime}
use Rattle.status_reading.specs.declared.page.StatusPage.{StatusPage}
use Rattle.page_changes.specs.declared.comparing.Change.{Change}
use Rattle.page_changes.specs.declared.comparing.Change.TheVariants.{OtherObjects, State, Staleness, Acknowledgement, Depth, CommentGone, CommentMade, DowntimeGone, DowntimeMade, Closing}
use Rattle.page_changes.specs.Effects.{is_same}

-- ---- equal values

-- each acknowledgement has a number of its own
abbrev pub number_of_acknowledgement : ShownAcknowledgement → ℕ
number_of_acknowledgement Missing = 0
number_of_acknowledgement Normal = 1
number_of_acknowledgement Sticky = 2

-- each source has a number of its own
abbrev pub number_of_source : ShownSource → ℕ
number_of_source source.User = 0
number_of_source source.Acknowledgement = 1
number_of_source source.Downtime = 2

-- the two rows are one comment
abbrev pub is_same_comment : ShownComment → ShownComment → Bool
is_same_comment one other =
    (one.id == other.id) && (one.moment == other.moment) && bytes_eq one.host.now other.host.now
    && bytes_eq one.service.now other.service.now && (number_of_source one.source == number_of_source other.source)
    && is_same one.persistent other.persistent && bytes_eq one.author.now other.author.now
    && bytes_eq one.text.now other.text.now

-- the two rows are one downtime entry, which may have begun since
abbrev pub is_same_downtime : ShownDowntime → ShownDowntime → Bool
is_same_downtime one other =
    (one.id == other.id) && bytes_eq one.host.now other.host.now && bytes_eq one.service.now other.service.now
    && is_same one.fixed other.fixed && (one.trigger == other.trigger) && (one.start == other.start)
    && (one.end == other.end) && (one.duration == other.duration) && bytes_eq one.author.now other.author.now
    && bytes_eq one.text.now other.text.now

-- the two rows are of one object
abbrev pub is_same_object : ShownObject → ShownObject → Bool
is_same_object one other = bytes_eq one.host.now other.host.now && bytes_eq one.service.now other.service.now

-- the rows are of the same objects in the same order
abbrev pub are_same_objects : List ShownObject → List ShownObject → Bool
are_same_objects [] [] = true
are_same_objects (one ∷ before) (other ∷ after) = is_same_object one other && are_same_objects before after
are_same_objects _ _ = false

-- ---- changes

-- this change, unless the values are the same
abbrev pub unless : Bool → Change → List Change
unless same change = if same then [] else change ∷ []

-- what is other on the second row of an object
abbrev pub object_changes : ShownObject × ShownObject → List Change
object_changes (one, other) =
    unless (is_same_state one.state other.state) (State one other)
    ++ unless (is_same one.stale other.stale) (Staleness one other)
    ++ unless (number_of_acknowledgement one.acknowledgement == number_of_acknowledgement other.acknowledgement)
    (Acknowledgement one other)
    ++ unless (one.depth == other.depth) (Depth one other)

-- the comments of the first list that the second has not
abbrev pub comments_without : List ShownComment → List ShownComment → List ShownComment
comments_without rows others =
    filter (λ (row : ShownComment). not (list_any (is_same_comment row) others)) rows

-- the downtime entries of the first list that the second has not
abbrev pub downtimes_without : List ShownDowntime → List ShownDowntime → List ShownDowntime
downtimes_without rows others =
    filter (λ (row : ShownDowntime). not (list_any (is_same_downtime row) others)) rows

-- what is other on the second list of objects
abbrev pub objects_changed : List ShownObject → List ShownObject → List Change
objects_changed before after =
    if are_same_objects before after then flat_map object_changes (zip before after) else OtherObjects ∷ []

-- the gateway began to close
abbrev pub closing_changes : Option ℕ → Option ℕ → List Change
closing_changes None (Some moment) = Closing moment ∷ []
closing_changes before after = []

-- what is other on the second page: of the objects, then the comments that are gone and those that were made, then the
-- downtime entries likewise, then the close
abbrev pub changed : StatusPage → StatusPage → List Change
changed before after =
    objects_changed before.objects.items after.objects.items
    ++ map CommentGone (comments_without before.comments.items after.comments.items)
    ++ map CommentMade (comments_without after.comments.items before.comments.items)
    ++ map DowntimeGone (downtimes_without before.downtimes.items after.downtimes.items)
    ++ map DowntimeMade (downtimes_without after.downtimes.items before.downtimes.items)
    ++ closing_changes before.closing after.closing
