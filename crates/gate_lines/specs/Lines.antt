-- The lines of a status page: of an object, a comment, a downtime entry and a close. Own rules.
use Rattle.std.specs.Prelude.{ℕ, Bool, if◌then◌else◌, List, [], ◌∷◌, ◌++◌, Option, Some, None, codes}
use Rattle.std.specs.Fmt.{decimal}
use Rattle.gate_model.specs.declared.record.Moment.{Moment}
use Rattle.gate_model.specs.declared.state.State.{State}
use Rattle.gate_model.specs.declared.state.State.TheVariants.{Pending, Ok, Warning, Critical, Unknown, Up, Down, Unreachable}
use Rattle.gate_model.specs.declared.status.CheckResult.{CheckResult}
use Rattle.gate_model.specs.declared.status.Acknowledgement.{Acknowledgement}
use Rattle.gate_model.specs.declared.comments.Source.{Source}
use Rattle.gate_model.specs.declared.comments.Source.TheVariants.{User, Ack, Downtime}
use Rattle.gate_model.specs.Escaping.{escaped}
use Rattle.gate_grammar.specs.Spelling.{joined}
use Rattle.gate_lines.specs.declared.rows.ObjectRow.{ObjectRow}
use Rattle.gate_lines.specs.declared.rows.CommentRow.{CommentRow}
use Rattle.gate_lines.specs.declared.rows.DowntimeRow.{DowntimeRow}

-- ---- fields

-- a line: its first word, then each field after a semicolon, and LF
abbrev pub page_line : List ℕ → List (List ℕ) → List ℕ
page_line word fields = word ++ joined fields ++ codes "\n"

-- the name of a service; a host has none
abbrev pub service_text : Option (List ℕ) → List ℕ
service_text None = []
service_text (Some name) = escaped name

-- the name of a state (Nagios Core 4 manual, Passive Checks)
abbrev pub state_name : State → List ℕ
state_name Pending = codes "PENDING"
state_name Ok = codes "OK"
state_name Warning = codes "WARNING"
state_name Critical = codes "CRITICAL"
state_name Unknown = codes "UNKNOWN"
state_name Up = codes "UP"
state_name Down = codes "DOWN"
state_name Unreachable = codes "UNREACHABLE"

-- a number in decimal, and `-` without one
abbrev pub optional_number : Option ℕ → List ℕ
optional_number None = codes "-"
optional_number (Some number) = decimal number

-- the moment of the last accepted result, if there is one
abbrev pub last_moment : Option CheckResult → Option ℕ
last_moment None = None
last_moment (Some last) = Some last.moment.0

-- whether the object is stale
abbrev pub freshness_name : Bool → List ℕ
freshness_name stale = if stale then codes "stale" else codes "fresh"

-- whether the object's problem is acknowledged, and how
abbrev pub acknowledgement_name : Option Acknowledgement → List ℕ
acknowledgement_name None = codes "-"
acknowledgement_name (Some made) = if made.sticky then codes "sticky" else codes "normal"

-- where a comment comes from
abbrev pub source_name : Source → List ℕ
source_name User = codes "user"
source_name Ack = codes "ack"
source_name (Downtime entry) = codes "downtime"

-- whether the comment is persistent
abbrev pub persistence_digit : Bool → List ℕ
persistence_digit persistent = if persistent then codes "1" else codes "0"

-- the kind of a downtime
abbrev pub plan_name : Bool → List ℕ
plan_name fixed = if fixed then codes "fixed" else codes "flexible"

-- ---- lines

-- the fields of the line of an object
abbrev pub object_fields : ObjectRow → List (List ℕ)
object_fields row =
    escaped row.host
    ∷ service_text row.service
    ∷ state_name row.state
    ∷ optional_number (last_moment row.last)
    ∷ freshness_name row.stale
    ∷ acknowledgement_name row.acknowledgement
    ∷ decimal row.depth
    ∷ escaped row.output
    ∷ []

-- `object;HOST;SERVICE;STATE;LAST;FRESH;ACK;DEPTH;OUTPUT`
abbrev pub object_line : ObjectRow → List ℕ
object_line row = page_line (codes "object") (object_fields row)

-- the fields of the line of a comment
abbrev pub comment_fields : CommentRow → List (List ℕ)
comment_fields row =
    decimal row.comment.id
    ∷ escaped row.host
    ∷ service_text row.service
    ∷ source_name row.comment.source
    ∷ persistence_digit row.comment.persistent
    ∷ decimal row.moment.0
    ∷ escaped row.author
    ∷ escaped row.text
    ∷ []

-- `comment;ID;HOST;SERVICE;SOURCE;PERSISTENT;MOMENT;AUTHOR;TEXT`
abbrev pub comment_line : CommentRow → List ℕ
comment_line row = page_line (codes "comment") (comment_fields row)

-- the fields of the line of a downtime entry
abbrev pub downtime_fields : DowntimeRow → List (List ℕ)
downtime_fields row =
    decimal row.scheduled.id
    ∷ escaped row.host
    ∷ service_text row.service
    ∷ plan_name row.scheduled.plan.fixed
    ∷ decimal row.scheduled.plan.trigger
    ∷ decimal row.scheduled.plan.starts.0
    ∷ decimal row.scheduled.plan.ends.0
    ∷ decimal row.scheduled.plan.lasts
    ∷ optional_number row.begin
    ∷ escaped row.author
    ∷ escaped row.text
    ∷ []

-- `downtime;ID;HOST;SERVICE;KIND;TRIGGER;START;END;DURATION;BEGIN;AUTHOR;TEXT`
abbrev pub downtime_line : DowntimeRow → List ℕ
downtime_line row = page_line (codes "downtime") (downtime_fields row)

-- `closing;MOMENT`, where the board is marked closing
abbrev pub closing_line : Option Moment → List ℕ
closing_line None = []
closing_line (Some moment) = page_line (codes "closing") (decimal moment.0 ∷ [])
