-- The page of some parts: each slot has its text (`filled`), and `html_bytes` is what a browser is sent. `without_texts`
-- is what the texts have no part in.
use Rattle.std.specs.Prelude.{ℕ, ◌==◌, List, [], Option, Some, None, Ok, Err, map, slice_get, string_bytes}
use Rattle.std.specs.List.{flat_map, before_first, after_first}
use Rattle.std.specs.Fmt.{decimal}
use Rattle.std.specs.Str.Lossy.{utf8_lossy}
use Rattle.form_urlencoded.specs.Form.{byte_serialize}
use Rattle.html_text.specs.Escaping.{html_text}
use Rattle.status_reading.specs.Plain.{plain_bytes}
use Rattle.status_memory.specs.declared.history.GatewayChange.{GatewayChange}
use Rattle.status_merge.specs.declared.gateway.Gateway.{Gateway}
use Rattle.status_merge.specs.declared.gateway.Old.{Old}
use Rattle.status_merge.specs.declared.gateway.MergedObject.{MergedObject}
use Rattle.status_merge.specs.declared.entries.Origin.{Origin}
use Rattle.status_merge.specs.declared.entries.CommentLine.{CommentLine}
use Rattle.status_merge.specs.declared.entries.DowntimeLine.{DowntimeLine}
use Rattle.status_merge.specs.Asking.{Asked, asked_by, with_choice}
use Rattle.status_view.specs.declared.view.View.{View}
use Rattle.status_view.specs.declared.layout.ObjectText.{ObjectText}
use Rattle.status_view.specs.declared.layout.ObjectText.TheVariants as object
use Rattle.status_view.specs.declared.layout.EntryList.TheVariants.{Comments, Downtimes}
use Rattle.status_view.specs.declared.layout.EntryText.{EntryText}
use Rattle.status_view.specs.declared.layout.EntryText.TheVariants as entry
use Rattle.status_view.specs.declared.layout.ChangeText.{ChangeText}
use Rattle.status_view.specs.declared.layout.ChangeText.TheVariants as change
use Rattle.status_view.specs.declared.layout.AskedText.{AskedText}
use Rattle.status_view.specs.declared.layout.AskedText.TheVariants as asked
use Rattle.status_view.specs.declared.layout.Slot.{Slot}
use Rattle.status_view.specs.declared.layout.Slot.TheVariants as slot
use Rattle.status_view.specs.Layout.{Piece, Markup, Number, Text, NodeView}
use Rattle.status_view.specs.Links.{object_link, object_link_at, hosts_link, page_query}

-- a text of the item of this index; nothing where there is none
abbrev pub text_at : {X : Type 0} → (X → List ℕ) → List X → ℕ → List ℕ
text_at text items index = elim (slice_get items index) [ Some item ↦ text item | None ↦ [] ]

-- why there is no newer page; nothing where the page is new
abbrev pub old_cause : Option Old → List ℕ
old_cause None = []
old_cause (Some old) = string_bytes old.cause

-- why there is no page of a gateway, or no newer one
abbrev pub cause_text : Gateway → List ℕ
cause_text gateway = elim gateway.page [ Ok page ↦ old_cause gateway.old | Err cause ↦ string_bytes cause ]

-- an output's words stand before its first `|`, its performance data after it (Nagios Core 4 manual, Plugin API)
abbrev pub words_of : List ℕ → List ℕ
words_of output = before_first (λ byte. byte == 124) output

abbrev pub performance_of : List ℕ → List ℕ
performance_of output = after_first (λ byte. byte == 124) output

-- a text of an object's row
abbrev pub object_text : ObjectText → MergedObject → List ℕ
object_text object.Host shown = plain_bytes shown.row.host.now
object_text object.Service shown = plain_bytes shown.row.service.now
object_text object.Link shown = object_link shown.row.host.now shown.row.service.now
object_text object.HostLink shown = object_link shown.row.host.now []
object_text object.HostsLink shown = hosts_link shown.row.host.now
object_text object.Output shown = plain_bytes (words_of shown.row.output.now)
object_text object.Performance shown = plain_bytes (performance_of shown.row.output.now)
object_text object.Gateway shown = shown.gateway.now

-- a text of the row of a comment or a downtime entry, by its fields and by the gateways that have it
abbrev pub entry_text : EntryText → List ℕ → List ℕ → List ℕ → List ℕ → List Origin → List ℕ
entry_text entry.Host host service author words origins = plain_bytes host
entry_text entry.Service host service author words origins = plain_bytes service
entry_text entry.Link host service author words origins = object_link host service
entry_text entry.Author host service author words origins = plain_bytes author
entry_text entry.Words host service author words origins = plain_bytes words
entry_text (entry.Gateway index) host service author words origins = text_at (λ origin. origin.gateway.now) origins index

-- of a comment's row
abbrev pub comment_text : EntryText → CommentLine → List ℕ
comment_text what line =
    entry_text what line.row.host.now line.row.service.now line.row.author.now line.row.text.now line.origins.items

-- of a downtime entry's row
abbrev pub downtime_text : EntryText → DowntimeLine → List ℕ
downtime_text what line =
    entry_text what line.row.host.now line.row.service.now line.row.author.now line.row.text.now line.origins.items

-- a text of a change; a feed has no bytes but UTF-8, so others are U+FFFD
abbrev pub change_text : ChangeText → GatewayChange → List ℕ
change_text change.Host shown = utf8_lossy (plain_bytes shown.change.now.host.items)
change_text change.HostInLink shown = byte_serialize shown.change.now.host.items
change_text change.Service shown = utf8_lossy (plain_bytes shown.change.now.service.items)
change_text change.ServiceInLink shown = byte_serialize shown.change.now.service.items
change_text change.Gateway shown = shown.gateway.now
change_text change.GatewayInLink shown = byte_serialize shown.gateway.now
change_text change.Link shown =
    object_link_at shown.change.now.host.items shown.change.now.service.items shown.gateway.now

-- a text that a query asks for
abbrev pub asked_text : AskedText → Asked → List ℕ
asked_text asked.Host query = query.host
asked_text asked.Hostname query = query.hostname
asked_text asked.Service query = query.service
asked_text asked.Output query = query.output
asked_text asked.Gateway query = query.gateway

-- the text that a slot is filled with
abbrev pub slot_text : View → Slot → List ℕ
slot_text view slot.Title = view.title.now
slot_text view (slot.Asked what) = asked_text what (asked_by view.query.now)
slot_text view (slot.Query page) =
    page_query (asked_by view.query.now) view.query.now.refresh view.query.now.sort page
slot_text view (slot.Sorted sort) = page_query (asked_by view.query.now) view.query.now.refresh sort 1
slot_text view (slot.Chosen choice) =
    page_query (with_choice choice (asked_by view.query.now)) view.query.now.refresh view.query.now.sort 1
slot_text view (slot.Gateway i) = text_at (λ gateway. gateway.name.now) view.gateways.now i
slot_text view (slot.Cause i) = text_at cause_text view.gateways.now i
slot_text view (slot.Object i what) = text_at (object_text what) view.objects.now i
slot_text view (slot.Entry Comments i what) = text_at (comment_text what) view.comments.now i
slot_text view (slot.Entry Downtimes i what) = text_at (downtime_text what) view.downtimes.now i
slot_text view (slot.Change i what) = text_at (change_text what) view.changes.now i

-- a part with this text in place of its own
abbrev pub with_text : {S T : Type 0} → (S → T) → Piece S → Piece T
with_text text (Markup markup) = Markup markup
with_text text (Number number) = Number number
with_text text (Text slot) = Text (text slot)

-- the page of these parts
abbrev pub filled : View → List NodeView → List (Piece (List ℕ))
filled view nodes = map (with_text (slot_text view)) nodes

-- the bytes of a part: markup as it is, a number in decimal, a text escaped
abbrev pub piece_bytes : Piece (List ℕ) → List ℕ
piece_bytes (Markup markup) = markup
piece_bytes (Number number) = decimal number
piece_bytes (Text text) = html_text text

-- the bytes of a page
abbrev pub html_bytes : List (Piece (List ℕ)) → List ℕ
html_bytes pieces = flat_map piece_bytes pieces

-- the markup and the numbers of a page, and the places of its texts
abbrev pub without_texts : List (Piece (List ℕ)) → List (Piece (List ℕ))
without_texts pieces = map (with_text (λ text. [])) pieces
