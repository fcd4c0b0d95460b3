-- Changes of states: the page of them, `changes_nodes`, and their feed, `feed_nodes`, a document of Atom (RFC 4287).
-- Own rules, but for the elements of the feed (sections 4.1 and 4.2).
use Rattle.std.specs.Prelude.{ℕ, not, ◌==◌, List, [], ◌∷◌, ◌++◌, length, Option, Some, None, codes}
use Rattle.gate_model.specs.declared.state.State.{State}
use Rattle.gate_lines.specs.Lines.{state_name}
use Rattle.status_memory.specs.declared.history.GatewayChange.{GatewayChange}
use Rattle.status_merge.specs.declared.query.Choice.TheVariants.{In}
use Rattle.status_merge.specs.Asking.{choice_word}
use Rattle.status_view.specs.declared.layout.Slot.TheVariants as slot
use Rattle.status_view.specs.declared.layout.ChangeText.TheVariants as text
use Rattle.status_view.specs.declared.changes.ChangeShape.{ChangeShape}
use Rattle.status_view.specs.Layout.{NodeView, Markup, Number, Text, nodes_if, each_indexed}
use Rattle.status_view.specs.Times.{instant_nodes, time_nodes}
use Rattle.status_view.specs.HeadLayout.{document_nodes, title_nodes, alarms_nodes}
use Rattle.status_view.specs.Shapes.{GatewayShapeView}

-- what decides the markup of a change
abbrev pub change_shape : GatewayChange → ChangeShape
change_shape shown = record {
  is_host = length shown.change.now.service.items == 0;
  moment = shown.change.now.moment;
  from = shown.change.now.from;
  to = shown.change.now.to;
}

-- the name of the state before a change; an object that is new has none
abbrev pub from_name : Option State → List ℕ
from_name None = codes "-"
from_name (Some state) = state_name state

-- ---- the page

-- the row of the change of this index: its moment, its object, with the link to its page for the gateway, the states
-- before and after it, and the gateway
unfoldable pub change_nodes : ℕ → ChangeShape → List NodeView
change_nodes index row =
    (Markup (codes "<tr class=\"") ∷ Markup (choice_word (In row.to)) ∷ [])
    ++ (Markup (codes "\"><td class=\"num cell\">") ∷ [])
    ++ time_nodes row.moment
    ++ (Markup (codes "</td><td class=\"name\"><a href=\"")
    ∷ Text (slot.Change index text.Link)
    ∷ Markup (codes "\"><bdi>")
    ∷ Text (slot.Change index text.Host)
    ∷ [])
    ++ nodes_if (not row.is_host)
    (Markup (codes "</bdi> <span class=\"soft\">/</span> <bdi>") ∷ Text (slot.Change index text.Service) ∷ [])
    ++ (Markup (codes "</bdi></a></td><td class=\"cell\" data-name=\"from\">")
    ∷ Markup (from_name row.from)
    ∷ Markup (codes "</td><td class=\"cell\"><span class=\"badge state\">")
    ∷ Markup (state_name row.to)
    ∷ Markup (codes "</span></td><td class=\"cell soft\" data-name=\"at\">")
    ∷ Text (slot.Change index text.Gateway)
    ∷ Markup (codes "</td></tr>\n")
    ∷ [])

-- a table of changes, with their number
unfoldable pub changes_table : List ChangeShape → List NodeView
changes_table rows =
    (Markup (codes "<table><caption><h2>Changes of states</h2>")
    ∷ Number (length rows)
    ∷ Markup (codes " shown, the newest first: of each gateway the last 1,000 since this program started</caption>\n")
    ∷ Markup (codes "<thead><tr><th scope=\"col\">Time</th><th scope=\"col\">Object</th><th scope=\"col\">From</th>")
    ∷ Markup (codes "<th scope=\"col\">To</th><th scope=\"col\">Gateway</th></tr></thead><tbody>\n")
    ∷ [])
    ++ each_indexed change_nodes rows
    ++ (Markup (codes "</tbody></table>\n") ∷ [])

-- the page, with the alarms about the gateways, which a browser asks for again after so many seconds
unfoldable pub changes_nodes : ℕ → List GatewayShapeView → List ChangeShape → List NodeView
changes_nodes refresh gateways rows =
    document_nodes refresh 0
    ++ title_nodes gateways
    ++ alarms_nodes gateways
    ++ changes_table rows
    ++ (Markup (codes "</main><footer><a href=\"/changes.json\">changes.json</a> &middot; ")
    ∷ Markup (codes "<a href=\"/changes.atom\">changes.atom</a></footer>\n</body></html>\n")
    ∷ [])

-- ---- the feed

-- the id of the change of this index: no other change has its gateway, object, moment and states
unfoldable pub feed_id_nodes : ℕ → ChangeShape → List NodeView
feed_id_nodes index row =
    Markup (codes "<entry><id>nscagate:change?gateway=")
    ∷ Text (slot.Change index text.GatewayInLink)
    ∷ Markup (codes "&amp;host=")
    ∷ Text (slot.Change index text.HostInLink)
    ∷ Markup (codes "&amp;service=")
    ∷ Text (slot.Change index text.ServiceInLink)
    ∷ Markup (codes "&amp;moment=")
    ∷ Number row.moment
    ∷ Markup (codes "&amp;from=")
    ∷ Markup (from_name row.from)
    ∷ Markup (codes "&amp;to=")
    ∷ Markup (state_name row.to)
    ∷ Markup (codes "</id>")
    ∷ []

-- its title: the object, the states before and after it, and the gateway
unfoldable pub feed_title_nodes : ℕ → ChangeShape → List NodeView
feed_title_nodes index row =
    (Markup (codes "<title>") ∷ Text (slot.Change index text.Host) ∷ [])
    ++ nodes_if (not row.is_host) (Markup (codes " / ") ∷ Text (slot.Change index text.Service) ∷ [])
    ++ (Markup (codes ": ")
    ∷ Markup (from_name row.from)
    ∷ Markup (codes " to ")
    ∷ Markup (state_name row.to)
    ∷ Markup (codes " at ")
    ∷ Text (slot.Change index text.Gateway)
    ∷ Markup (codes "</title>")
    ∷ [])

-- the entry of the change of this index, with the link to the object's page for the gateway
unfoldable pub feed_entry_nodes : ℕ → ChangeShape → List NodeView
feed_entry_nodes index row =
    feed_id_nodes index row
    ++ feed_title_nodes index row
    ++ (Markup (codes "<updated>") ∷ [])
    ++ instant_nodes (codes "T") row.moment
    ++ (Markup (codes "</updated><link href=\"")
    ∷ Text (slot.Change index text.Link)
    ∷ Markup (codes "\"/></entry>\n")
    ∷ [])

-- when the feed was updated: the moment of its first change, or this clock where it has none
abbrev pub updated_at : ℕ → List ChangeShape → ℕ
updated_at clock [] = clock
updated_at clock (row ∷ rows) = row.moment

-- the feed at this clock
unfoldable pub feed_nodes : ℕ → List ChangeShape → List NodeView
feed_nodes clock rows =
    (Markup (codes "<?xml version=\"1.0\" encoding=\"utf-8\"?>\n")
    ∷ Markup (codes "<feed xmlns=\"http://www.w3.org/2005/Atom\"><id>nscagate:changes</id><title>")
    ∷ Text slot.Title
    ∷ Markup (codes "</title><updated>")
    ∷ [])
    ++ instant_nodes (codes "T") (updated_at clock rows)
    ++ (Markup (codes "</updated><author><name>statusweb</name></author>")
    ∷ Markup (codes "<link rel=\"self\" href=\"/changes.atom\"/><link href=\"/changes\"/>\n")
    ∷ [])
    ++ each_indexed feed_entry_nodes rows
    ++ (Markup (codes "</feed>\n") ∷ [])
