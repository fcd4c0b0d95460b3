-- The page of one object: what it shows of the pages of all gateways (`ShowsObject`), and how (`object_page_nodes`).
-- Own rules.
use Rattle.std.specs.Prelude.{◌≡◌, ℕ, Bool, true, not, ◌&&◌, if◌then◌else◌, List, [], ◌∷◌, ◌++◌, map, filter, None, codes}
use Rattle.std.specs.List.{flat_map, list_any}
use Rattle.std.specs.Str.{bytes_eq}
use Rattle.status_reading.specs.declared.rows.ShownComment.{ShownComment}
use Rattle.status_reading.specs.declared.rows.ShownDowntime.{ShownDowntime}
use Rattle.status_memory.specs.declared.history.GatewayChange.{GatewayChange}
use Rattle.status_merge.specs.declared.gateway.Gateway.{Gateway}
use Rattle.status_merge.specs.declared.gateway.MergedObject.{MergedObject}
use Rattle.status_merge.specs.declared.entries.Origin.{Origin}
use Rattle.status_merge.specs.declared.query.Choice.TheVariants.{All}
use Rattle.status_merge.specs.Asking.{only}
use Rattle.status_merge.specs.Selecting.{is_at}
use Rattle.status_merge.specs.Objects.{objects_on, merged, with_hosts}
use Rattle.status_merge.specs.Entries.{comment_view, comment_lines, downtime_view, downtime_lines}
use Rattle.status_view.specs.declared.view.View.{View}
use Rattle.status_view.specs.declared.layout.EntryList.TheVariants.{Comments, Downtimes}
use Rattle.status_view.specs.declared.layout.ObjectText.TheVariants as text
use Rattle.status_view.specs.declared.layout.Slot.TheVariants as slot
use Rattle.status_view.specs.declared.shape.ObjectShape.{ObjectShape}
use Rattle.status_view.specs.declared.changes.ChangeShape.{ChangeShape}
use Rattle.status_view.specs.declared.one_object.ObjectAsked.{ObjectAsked}
use Rattle.status_view.specs.Layout.{NodeView, Markup, Text, nodes_if}
use Rattle.status_view.specs.Shapes.{PageShapeView, page_shape}
use Rattle.status_view.specs.HeadLayout.{document_nodes, title_nodes, alarms_nodes}
use Rattle.status_view.specs.ObjectsLayout.{objects_table}
use Rattle.status_view.specs.ListsLayout.{entries_nodes}
use Rattle.status_view.specs.ChangesLayout.{change_shape, changes_table}
use Rattle.status_view.specs.Page.{end_nodes}
use Rattle.status_view.specs.Filling.{filled, html_bytes}

-- ---- what is shown

-- whether these are the names of the object that is asked for, byte for byte
abbrev pub is_asked : ObjectAsked → List ℕ → List ℕ → Bool
is_asked asked host service = bytes_eq host asked.host.now && bytes_eq service asked.service.now

-- whether this is the name of the gateway that is asked for, if one is
abbrev pub is_from : ObjectAsked → List ℕ → Bool
is_from asked gateway = is_at asked.gateway.now gateway

-- the object's row on the page of a gateway, as the list of objects has it of that gateway alone; none of a gateway that
-- isn't asked for
abbrev pub rows_on : ObjectAsked → Gateway → List MergedObject
rows_on asked gateway =
    if is_from asked gateway.name.now
    then filter (λ object. is_asked asked object.row.host.now object.row.service.now)
    (with_hosts (merged (objects_on gateway)))
    else []

-- whether one of the gateways that have an entry is asked for
abbrev pub are_from : ObjectAsked → List Origin → Bool
are_from asked origins = list_any (λ origin. is_from asked origin.gateway.now) origins

-- whether a line is that of a comment on the object, or of a downtime entry of it
abbrev pub is_comment_on : ObjectAsked → ShownComment × List Origin → Bool
is_comment_on asked line = is_asked asked line.0.host.now line.0.service.now && are_from asked line.1

abbrev pub is_downtime_of : ObjectAsked → ℕ × ShownDowntime × List Origin → Bool
is_downtime_of asked line = is_asked asked line.1.host.now line.1.service.now && are_from asked line.2

-- whether a change is one of the object
abbrev pub is_change_of : ObjectAsked → GatewayChange → Bool
is_change_of asked shown =
    is_asked asked shown.change.now.host.items shown.change.now.service.items && is_from asked shown.gateway.now

-- of the changes those of the object
abbrev pub changes_asked : ObjectAsked → List GatewayChange
changes_asked asked = filter (is_change_of asked) asked.changes.now

-- the page of the object shows this: a row of each gateway that is asked for and has the object, and its comments,
-- downtime entries and changes there
pub record ShowsObject (asked : ObjectAsked) (view : View) : Type 0 where
  pub title : view.title.now ≡ asked.title.now
  pub clock : view.clock ≡ asked.clock
  pub seconds : view.query.now.refresh ≡ asked.refresh
  pub pages : view.gateways.now ≡ asked.gateways.now
  pub objects : view.objects.now ≡ flat_map (rows_on asked) asked.gateways.now
  pub comments : map comment_view view.comments.now ≡ filter (is_comment_on asked) (comment_lines (only All) asked.gateways.now)
  pub downtimes : map downtime_view view.downtimes.now ≡ filter (is_downtime_of asked) (downtime_lines (only All) asked.gateways.now)
  pub changes : view.changes.now ≡ changes_asked asked

-- ---- how

-- the title of the object's table: its names, for a service the link to its host, and the link to its host's objects
unfoldable pub name_nodes : Bool → List NodeView
name_nodes is_host =
    (Markup (codes "<table><caption><h2><bdi>") ∷ Text (slot.Object 0 text.Host) ∷ [])
    ++ nodes_if (not is_host)
    (Markup (codes "</bdi> <span class=\"soft\">/</span> <bdi>") ∷ Text (slot.Object 0 text.Service) ∷ [])
    ++ (Markup (codes "</bdi></h2>") ∷ [])
    ++ nodes_if (not is_host)
    (Markup (codes "<a href=\"") ∷ Text (slot.Object 0 text.HostLink) ∷ Markup (codes "\">its host</a> &middot; ") ∷ [])
    ++ (Markup (codes "<a href=\"")
    ∷ Text (slot.Object 0 text.HostsLink)
    ∷ Markup (codes "\">objects of the host</a></caption>\n")
    ∷ [])

-- the rows, or that there is none
unfoldable pub rows_nodes : List ObjectShape → List NodeView
rows_nodes [] = Markup (codes "<p>No page of a gateway shows this object.</p>\n") ∷ []
rows_nodes (row ∷ rows) = name_nodes row.is_host ++ objects_table None true (row ∷ rows)

-- what stands before the lists
unfoldable pub object_head_nodes : PageShapeView → List NodeView
object_head_nodes shape =
    document_nodes shape.refresh 0
    ++ title_nodes shape.gateways
    ++ alarms_nodes shape.gateways
    ++ rows_nodes shape.objects

-- the whole page
unfoldable pub object_page_nodes : PageShapeView → List ChangeShape → List NodeView
object_page_nodes shape changes =
    object_head_nodes shape
    ++ entries_nodes Comments shape.comments
    ++ entries_nodes Downtimes shape.downtimes
    ++ changes_table changes
    ++ end_nodes

-- the bytes of the page of the object
abbrev pub IsObjectPage : ObjectAsked → List ℕ → Type 0
IsObjectPage asked html =
    (view : View) × ShowsObject asked view
    × (html ≡ html_bytes (filled view (object_page_nodes (page_shape view) (map change_shape view.changes.now))))
