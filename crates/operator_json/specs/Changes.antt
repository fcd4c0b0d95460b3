-- A change between two status pages as JSON: `change_json`. Own rules: the members, their order and their words.
use Rattle.std.specs.Prelude.{ℕ, Bool, true, false, List, [], ◌∷◌, codes}
use Rattle.json.specs.Json.{Json, null, string, object}
use Rattle.gate_lines.specs.Lines.{state_name, freshness_name}
use Rattle.status_reading.specs.Page.{shown_acknowledgement}
use Rattle.page_changes.specs.declared.comparing.Change.{Change}
use Rattle.page_changes.specs.declared.comparing.Change.TheVariants as change
use Rattle.status_export.specs.Document.{number_json, field_json, service_json, members_of}

-- what is other
abbrev pub kind_word : Change → List ℕ
kind_word change.OtherObjects = codes "objects"
kind_word (change.State one other) = codes "state"
kind_word (change.Staleness one other) = codes "freshness"
kind_word (change.Acknowledgement one other) = codes "acknowledgement"
kind_word (change.Depth one other) = codes "depth"
kind_word (change.CommentGone row) = codes "comment gone"
kind_word (change.CommentMade row) = codes "comment"
kind_word (change.DowntimeGone row) = codes "downtime gone"
kind_word (change.DowntimeMade row) = codes "downtime"
kind_word (change.Closing moment) = codes "closing"

-- the host, and the service; neither of the whole gateway
abbrev pub host_of : Change → Json
host_of change.OtherObjects = null
host_of (change.State one other) = field_json other.host.now
host_of (change.Staleness one other) = field_json other.host.now
host_of (change.Acknowledgement one other) = field_json other.host.now
host_of (change.Depth one other) = field_json other.host.now
host_of (change.CommentGone row) = field_json row.host.now
host_of (change.CommentMade row) = field_json row.host.now
host_of (change.DowntimeGone row) = field_json row.host.now
host_of (change.DowntimeMade row) = field_json row.host.now
host_of (change.Closing moment) = null

abbrev pub service_of : Change → Json
service_of change.OtherObjects = null
service_of (change.State one other) = service_json other.service.now
service_of (change.Staleness one other) = service_json other.service.now
service_of (change.Acknowledgement one other) = service_json other.service.now
service_of (change.Depth one other) = service_json other.service.now
service_of (change.CommentGone row) = service_json row.service.now
service_of (change.CommentMade row) = service_json row.service.now
service_of (change.DowntimeGone row) = service_json row.service.now
service_of (change.DowntimeMade row) = service_json row.service.now
service_of (change.Closing moment) = null

-- the id of a comment or a downtime entry
abbrev pub id_of : Change → Json
id_of (change.CommentGone row) = number_json row.id
id_of (change.CommentMade row) = number_json row.id
id_of (change.DowntimeGone row) = number_json row.id
id_of (change.DowntimeMade row) = number_json row.id
id_of other = null

-- what an object was, and what it is, in the words of a page
abbrev pub before_of : Change → Json
before_of (change.State one other) = string (state_name one.state)
before_of (change.Staleness one other) = string (freshness_name one.stale)
before_of (change.Acknowledgement one other) = string (shown_acknowledgement one.acknowledgement)
before_of (change.Depth one other) = number_json one.depth
before_of other = null

abbrev pub after_of : Change → Json
after_of (change.State one other) = string (state_name other.state)
after_of (change.Staleness one other) = string (freshness_name other.stale)
after_of (change.Acknowledgement one other) = string (shown_acknowledgement other.acknowledgement)
after_of (change.Depth one other) = number_json other.depth
after_of other = null

-- who says what, and the output of another state
abbrev pub author_of : Change → Json
author_of (change.CommentGone row) = field_json row.author.now
author_of (change.CommentMade row) = field_json row.author.now
author_of (change.DowntimeGone row) = field_json row.author.now
author_of (change.DowntimeMade row) = field_json row.author.now
author_of other = null

abbrev pub text_of : Change → Json
text_of (change.State one other) = field_json other.output.now
text_of (change.CommentGone row) = field_json row.text.now
text_of (change.CommentMade row) = field_json row.text.now
text_of (change.DowntimeGone row) = field_json row.text.now
text_of (change.DowntimeMade row) = field_json row.text.now
text_of other = null

-- the whole object, with the moment of the page after
abbrev pub change_json : ℕ → Change → Json
change_json moment given =
    object (members_of (
    (codes "moment", number_json moment)
    ∷ (codes "change", string (kind_word given))
    ∷ (codes "host", host_of given)
    ∷ (codes "service", service_of given)
    ∷ (codes "id", id_of given)
    ∷ (codes "before", before_of given)
    ∷ (codes "after", after_of given)
    ∷ (codes "author", author_of given)
    ∷ (codes "text", text_of given)
    ∷ []
    ))
