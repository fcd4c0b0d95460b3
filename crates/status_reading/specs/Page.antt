-- The text of a status page: `page_text`. Own rules: the lines of the page. The words are those that the gateway
-- writes.
use Rattle.std.specs.Prelude.{ℕ, List, [], ◌∷◌, ◌++◌, Option, Some, None, codes}
use Rattle.std.specs.List.{flat_map}
use Rattle.std.specs.Fmt.{decimal}
use Rattle.gate_lines.specs.Lines.{page_line, state_name, optional_number, freshness_name, persistence_digit, plan_name}
use Rattle.status_reading.specs.declared.rows.ShownAcknowledgement.{ShownAcknowledgement}
use Rattle.status_reading.specs.declared.rows.ShownAcknowledgement.TheVariants.{Missing, Normal, Sticky}
use Rattle.status_reading.specs.declared.rows.ShownSource.{ShownSource}
use Rattle.status_reading.specs.declared.rows.ShownSource.TheVariants as source
use Rattle.status_reading.specs.Rows.{ObjectView, CommentView, DowntimeView, PageView}

-- whether the object's problem is acknowledged, and how
abbrev pub shown_acknowledgement : ShownAcknowledgement → List ℕ
shown_acknowledgement Missing = codes "-"
shown_acknowledgement Normal = codes "normal"
shown_acknowledgement Sticky = codes "sticky"

-- where a comment comes from
abbrev pub shown_source : ShownSource → List ℕ
shown_source source.User = codes "user"
shown_source source.Acknowledgement = codes "ack"
shown_source source.Downtime = codes "downtime"

-- the fields of the line of an object
abbrev pub object_fields : ObjectView → List (List ℕ)
object_fields row =
    row.host
    ∷ row.service
    ∷ state_name row.state
    ∷ optional_number row.last
    ∷ freshness_name row.stale
    ∷ shown_acknowledgement row.acknowledgement
    ∷ decimal row.depth
    ∷ row.output
    ∷ []

-- the fields of the line of a comment
abbrev pub comment_fields : CommentView → List (List ℕ)
comment_fields row =
    decimal row.id
    ∷ row.host
    ∷ row.service
    ∷ shown_source row.source
    ∷ persistence_digit row.persistent
    ∷ decimal row.moment
    ∷ row.author
    ∷ row.text
    ∷ []

-- the fields of the line of a downtime entry
abbrev pub downtime_fields : DowntimeView → List (List ℕ)
downtime_fields row =
    decimal row.id
    ∷ row.host
    ∷ row.service
    ∷ plan_name row.fixed
    ∷ decimal row.trigger
    ∷ decimal row.start
    ∷ decimal row.end
    ∷ decimal row.duration
    ∷ optional_number row.begin
    ∷ row.author
    ∷ row.text
    ∷ []

-- `status MOMENT`
abbrev pub status_line : ℕ → List ℕ
status_line moment = codes "status " ++ decimal moment ++ codes "\n"

-- `object;HOST;SERVICE;STATE;LAST;FRESH;ACK;DEPTH;OUTPUT`
abbrev pub object_line : ObjectView → List ℕ
object_line row = page_line (codes "object") (object_fields row)

-- `comment;ID;HOST;SERVICE;SOURCE;PERSISTENT;MOMENT;AUTHOR;TEXT`
abbrev pub comment_line : CommentView → List ℕ
comment_line row = page_line (codes "comment") (comment_fields row)

-- `downtime;ID;HOST;SERVICE;KIND;TRIGGER;START;END;DURATION;BEGIN;AUTHOR;TEXT`
abbrev pub downtime_line : DowntimeView → List ℕ
downtime_line row = page_line (codes "downtime") (downtime_fields row)

-- `closing;MOMENT`, where the gateway is closing
abbrev pub closing_line : Option ℕ → List ℕ
closing_line None = []
closing_line (Some moment) = page_line (codes "closing") (decimal moment ∷ [])

-- the text of the page that shows this
abbrev pub page_text : PageView → List ℕ
page_text page =
    status_line page.moment
    ++ flat_map object_line page.objects
    ++ flat_map comment_line page.comments
    ++ flat_map downtime_line page.downtimes
    ++ closing_line page.closing
