-- The status pages of gateways as JSON (RFC 8259): `status_document` is the document, and `compact_text` its text on
-- one line. Moments are in seconds since 1970. Own rules: the members, their order and their words.
use Rattle.std.specs.Prelude.{ℕ, true, false, List, [], ◌∷◌, map, Option, Some, None, Ok, Err, codes, string_bytes}
use Rattle.std.specs.List.{flat_map}
use Rattle.std.specs.Fmt.{decimal}
use Rattle.std.specs.Str.Lossy.{utf8_lossy}
use Rattle.json.specs.Json.{Json, null, boolean, number, string, array, object, Items, no_items, item, Members, no_members, member}
use Rattle.json.specs.Print.{print}
use Rattle.json.specs.Tree.{json_tokens}
use Rattle.gate_lines.specs.Lines.{state_name}
use Rattle.status_reading.specs.declared.rows.ShownAcknowledgement.{ShownAcknowledgement}
use Rattle.status_reading.specs.declared.rows.ShownAcknowledgement.TheVariants.{Missing, Normal, Sticky}
use Rattle.status_reading.specs.declared.rows.ShownComment.{ShownComment}
use Rattle.status_reading.specs.declared.rows.ShownDowntime.{ShownDowntime}
use Rattle.status_reading.specs.declared.page.StatusPage.{StatusPage}
use Rattle.status_reading.specs.Page.{shown_source}
use Rattle.status_reading.specs.Plain.{plain_bytes}
use Rattle.status_memory.specs.declared.alarm.Alarm.{Alarm}
use Rattle.status_memory.specs.Alarm.{alarm_name}
use Rattle.status_merge.specs.declared.gateway.Gateway.{Gateway}
use Rattle.status_merge.specs.declared.gateway.Old.{Old}
use Rattle.status_merge.specs.declared.gateway.MergedObject.{MergedObject}
use Rattle.status_merge.specs.Ranks.{is_unhandled}
use Rattle.status_merge.specs.declared.entries.Entry.{Entry}
use Rattle.status_merge.specs.Asking.{Asked}
use Rattle.status_merge.specs.Entries.{comments_on, downtimes_on}

-- ---- JSON by lists

-- the items of an array
abbrev pub items_of : List Json → Items
items_of [] = no_items
items_of (first ∷ rest) = item first (items_of rest)

-- the members of an object, in this order
abbrev pub members_of : List (List ℕ × Json) → Members
members_of [] = no_members
members_of (first ∷ rest) = member first.0 first.1 (members_of rest)

-- the text of a document, without spaces
abbrev pub compact_text : Json → List ℕ
compact_text document = print (json_tokens document)

-- ---- values

-- a number in decimal
abbrev pub number_json : ℕ → Json
number_json n = number (decimal n)

-- a number in decimal, and `null` without one
abbrev pub optional_json : Option ℕ → Json
optional_json None = null
optional_json (Some n) = number_json n

-- the text that a field of a page stands for, with U+FFFD for bytes that are no UTF-8
abbrev pub plain_text : List ℕ → List ℕ
plain_text field = utf8_lossy (plain_bytes field)

-- what a field of a page stands for
abbrev pub field_json : List ℕ → Json
field_json field = string (plain_text field)

-- the name of a service; a host has none
abbrev pub service_json : List ℕ → Json
service_json [] = null
service_json (first ∷ rest) = field_json (first ∷ rest)

-- whether the object's problem is acknowledged, and how
abbrev pub acknowledgement_word : ShownAcknowledgement → List ℕ
acknowledgement_word Missing = codes "none"
acknowledgement_word Normal = codes "normal"
acknowledgement_word Sticky = codes "sticky"

-- ---- rows

-- the names of the alarms about a gateway
abbrev pub alarm_json : Alarm → Json
alarm_json alarm = string (alarm_name alarm)

abbrev pub alarms_json : List Alarm → Json
alarms_json alarms = array (items_of (map alarm_json alarms))

-- a gateway whose page is new
abbrev pub reachable_json : List ℕ → StatusPage → List Alarm → Json
reachable_json name page alarms =
    object (members_of (
    (codes "name", string name)
    ∷ (codes "reachable", boolean true)
    ∷ (codes "moment", number_json page.moment)
    ∷ (codes "closing", optional_json page.closing)
    ∷ (codes "alarms", alarms_json alarms)
    ∷ []
    ))

-- a gateway that shows no page, for this cause
abbrev pub unreachable_json : List ℕ → List ℕ → List Alarm → Json
unreachable_json name cause alarms =
    object (members_of (
    (codes "name", string name)
    ∷ (codes "reachable", boolean false)
    ∷ (codes "fault", string cause)
    ∷ (codes "alarms", alarms_json alarms)
    ∷ []
    ))

-- a gateway whose page is old, for this cause
abbrev pub old_json : List ℕ → StatusPage → List ℕ → ℕ → List Alarm → Json
old_json name page cause age alarms =
    object (members_of (
    (codes "name", string name)
    ∷ (codes "reachable", boolean false)
    ∷ (codes "fault", string cause)
    ∷ (codes "moment", number_json page.moment)
    ∷ (codes "closing", optional_json page.closing)
    ∷ (codes "age", number_json age)
    ∷ (codes "alarms", alarms_json alarms)
    ∷ []
    ))

-- a gateway with a page, which may be old
abbrev pub page_json : List ℕ → StatusPage → Option Old → List Alarm → Json
page_json name page None alarms = reachable_json name page alarms
page_json name page (Some old) alarms = old_json name page (string_bytes old.cause) old.age alarms

abbrev pub gateway_json : Gateway → Json
gateway_json gateway = elim gateway.page [
  | Ok page ↦ page_json gateway.name.now page gateway.old gateway.alarms.items
  | Err cause ↦ unreachable_json gateway.name.now (string_bytes cause) gateway.alarms.items
]

unfoldable pub object_json : MergedObject → Json
object_json shown =
    object (members_of (
    (codes "gateway", string shown.gateway.now)
    ∷ (codes "host", field_json shown.row.host.now)
    ∷ (codes "service", service_json shown.row.service.now)
    ∷ (codes "state", string (state_name shown.row.state))
    ∷ (codes "since", number_json shown.since.moment)
    ∷ (codes "since_at_least", boolean shown.since.at_least)
    ∷ (codes "last", optional_json shown.row.last)
    ∷ (codes "stale", boolean shown.row.stale)
    ∷ (codes "acknowledgement", string (acknowledgement_word shown.row.acknowledgement))
    ∷ (codes "depth", number_json shown.row.depth)
    ∷ (codes "unhandled", boolean (is_unhandled shown))
    ∷ (codes "output", field_json shown.row.output.now)
    ∷ []
    ))

-- a comment, with the gateway that has it
unfoldable pub comment_json : Entry ShownComment → Json
comment_json entry =
    let row = entry.row in
    object (members_of (
    (codes "gateway", string entry.origin.gateway.now)
    ∷ (codes "id", number_json row.id)
    ∷ (codes "host", field_json row.host.now)
    ∷ (codes "service", service_json row.service.now)
    ∷ (codes "source", string (shown_source row.source))
    ∷ (codes "persistent", boolean row.persistent)
    ∷ (codes "moment", number_json row.moment)
    ∷ (codes "author", field_json row.author.now)
    ∷ (codes "text", field_json row.text.now)
    ∷ []
    ))

-- a downtime entry, with the gateway that has it
unfoldable pub downtime_json : Entry ShownDowntime → Json
downtime_json entry =
    let row = entry.row in
    object (members_of (
    (codes "gateway", string entry.origin.gateway.now)
    ∷ (codes "id", number_json row.id)
    ∷ (codes "host", field_json row.host.now)
    ∷ (codes "service", service_json row.service.now)
    ∷ (codes "fixed", boolean row.fixed)
    ∷ (codes "trigger", number_json row.trigger)
    ∷ (codes "start", number_json row.start)
    ∷ (codes "end", number_json row.end)
    ∷ (codes "duration", number_json row.duration)
    ∷ (codes "begin", optional_json row.begin)
    ∷ (codes "author", field_json row.author.now)
    ∷ (codes "text", field_json row.text.now)
    ∷ []
    ))

-- ---- the document

-- the gateways, these objects, and the comments and downtime entries of the hosts that are asked for
abbrev pub status_document : List Gateway → List MergedObject → Asked → Json
status_document gateways objects asked =
    object (members_of (
    (codes "gateways", array (items_of (map gateway_json gateways)))
    ∷ (codes "objects", array (items_of (map object_json objects)))
    ∷ (codes "comments", array (items_of (map comment_json (flat_map (comments_on asked) gateways))))
    ∷ (codes "downtimes", array (items_of (map downtime_json (flat_map (downtimes_on asked) gateways))))
    ∷ []
    ))
