-- When two rows of status pages show the same, but for ids and moments: `is_same_object`, `is_same_comment`,
-- `is_same_downtime`. Own rule. What follows from moments is left out too: whether an object is stale, how many of its
-- entries are active, and when an entry began. Of a trigger, which is an id, it counts whether there is one.
use Rattle.std.specs.Prelude.{ℕ, ◌==◌, ◌&&◌, not, Bool, if◌then◌else◌}
use Rattle.std.specs.Str.{bytes_eq}
use Rattle.gate_model.specs.State.{is_same_state}
use Rattle.status_reading.specs.declared.rows.ShownAcknowledgement.{ShownAcknowledgement}
use Rattle.status_reading.specs.declared.rows.ShownAcknowledgement.TheVariants.{Missing, Normal, Sticky}
use Rattle.status_reading.specs.declared.rows.ShownSource.{ShownSource}
use Rattle.status_reading.specs.declared.rows.ShownSource.TheVariants.{User, Acknowledgement, Downtime}
use Rattle.status_reading.specs.declared.rows.ShownObject.{ShownObject}
use Rattle.status_reading.specs.declared.rows.ShownComment.{ShownComment}
use Rattle.status_reading.specs.declared.rows.ShownDowntime.{ShownDowntime}

-- each acknowledgement has a number of its own
abbrev pub number_of_acknowledgement : ShownAcknowledgement → ℕ
number_of_acknowledgement Missing = 0
number_of_acknowledgement Normal = 1
number_of_acknowledgement Sticky = 2

-- each source has a number of its own
abbrev pub number_of_source : ShownSource → ℕ
number_of_source User = 0
number_of_source Acknowledgement = 1
number_of_source Downtime = 2

-- the two are both true or both false
abbrev pub is_same : Bool → Bool → Bool
is_same one other = if one then other else not other

-- the same object, with the same state, acknowledgement and output
abbrev pub is_same_object : ShownObject → ShownObject → Bool
is_same_object one other =
    bytes_eq one.host.now other.host.now && bytes_eq one.service.now other.service.now
    && is_same_state one.state other.state
    && (number_of_acknowledgement one.acknowledgement == number_of_acknowledgement other.acknowledgement)
    && bytes_eq one.output.now other.output.now

-- a comment of the same object, from the same source, with the same persistence, author and text
abbrev pub is_same_comment : ShownComment → ShownComment → Bool
is_same_comment one other =
    bytes_eq one.host.now other.host.now && bytes_eq one.service.now other.service.now
    && (number_of_source one.source == number_of_source other.source) && is_same one.persistent other.persistent
    && bytes_eq one.author.now other.author.now && bytes_eq one.text.now other.text.now

-- a downtime entry of the same object, with the same plan, author and text
abbrev pub is_same_downtime : ShownDowntime → ShownDowntime → Bool
is_same_downtime one other =
    bytes_eq one.host.now other.host.now && bytes_eq one.service.now other.service.now
    && is_same one.fixed other.fixed && is_same (one.trigger == 0) (other.trigger == 0) && (one.start == other.start)
    && (one.end == other.end) && (one.duration == other.duration) && bytes_eq one.author.now other.author.now
    && bytes_eq one.text.now other.text.now
