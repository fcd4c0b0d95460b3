-- The lists of comments and of downtime entries: `entries_nodes`. Own rules.
use Rattle.std.specs.Prelude.{ℕ, ◌-◌, ◌==◌, Bool, not, nat_lt, List, [], ◌∷◌, ◌++◌, length, Option, Some, None, codes}
use Rattle.gate_lines.specs.Lines.{plan_name}
use Rattle.status_reading.specs.Page.{shown_source}
use Rattle.status_view.specs.declared.layout.EntryList.{EntryList}
use Rattle.status_view.specs.declared.layout.EntryList.TheVariants.{Comments, Downtimes}
use Rattle.status_view.specs.declared.layout.EntryText.TheVariants as text
use Rattle.status_view.specs.declared.layout.Slot.TheVariants.{Entry}
use Rattle.status_view.specs.declared.shape.CommentMarks.{CommentMarks}
use Rattle.status_view.specs.declared.shape.DowntimeMarks.{DowntimeMarks}
use Rattle.status_view.specs.declared.shape.EntryMarks.{EntryMarks}
use Rattle.status_view.specs.declared.shape.EntryMarks.TheVariants.{Comment, Downtime}
use Rattle.status_view.specs.Layout.{NodeView, Markup, Number, Text, nodes_if, each_indexed}
use Rattle.status_view.specs.Times.{span_nodes, time_nodes}
use Rattle.status_view.specs.Shapes.{EntryShapeView}

-- ---- comments

-- where a comment comes from, whether it is persistent, and its moment
unfoldable pub comment_nodes : CommentMarks → List NodeView
comment_nodes row =
    (Markup (shown_source row.source) ∷ [])
    ++ nodes_if row.persistent (Markup (codes ", persistent") ∷ [])
    ++ (Markup (codes "</td><td class=\"num cell\">") ∷ [])
    ++ time_nodes row.moment

-- ---- downtime entries

-- how long a flexible entry lasts
unfoldable pub duration_nodes : ℕ → List NodeView
duration_nodes seconds = (Markup (codes ", for ") ∷ []) ++ span_nodes seconds

-- the kind of an entry, its trigger if it has one, its window, and how long it lasts where it is flexible
unfoldable pub window_nodes : DowntimeMarks → List NodeView
window_nodes row =
    (Markup (plan_name row.fixed) ∷ [])
    ++ nodes_if (nat_lt 0 row.trigger) (Markup (codes ", triggered by ") ∷ Number row.trigger ∷ [])
    ++ (Markup (codes "</td><td class=\"cell\">") ∷ [])
    ++ time_nodes row.start
    ++ (Markup (codes " to ") ∷ [])
    ++ time_nodes row.end
    ++ nodes_if (not row.fixed) (duration_nodes row.duration)

-- how long ago it began, at the moment of the page
unfoldable pub ago_nodes : ℕ → ℕ → List NodeView
ago_nodes moment begin =
    (Markup (codes "</td><td class=\"num cell\" data-name=\"began\">") ∷ [])
    ++ span_nodes (moment - begin)
    ++ (Markup (codes " ago") ∷ [])

unfoldable pub began_nodes : ℕ → Option ℕ → List NodeView
began_nodes moment None =
    Markup (codes "</td><td class=\"num cell\" data-name=\"began\">") ∷ Markup (codes "not yet") ∷ []
began_nodes moment (Some begin) = ago_nodes moment begin

-- ---- both

-- what a row shows beside its name and its texts
unfoldable pub entry_marks_nodes : EntryMarks → List NodeView
entry_marks_nodes (Comment row) = comment_nodes row
entry_marks_nodes (Downtime row) = window_nodes row ++ began_nodes row.moment row.begin

-- the beginning of a row: the host, and the service where the entry is on one, as the link to the object's page
unfoldable pub entry_name_nodes : EntryList → ℕ → Bool → List NodeView
entry_name_nodes list index is_host =
    (Markup (codes "<tr><td class=\"name\"><a href=\"")
    ∷ Text (Entry list index text.Link)
    ∷ Markup (codes "\"><bdi>")
    ∷ Text (Entry list index text.Host)
    ∷ [])
    ++ nodes_if (not is_host)
    (Markup (codes "</bdi> <span class=\"soft\">/</span> <bdi>") ∷ Text (Entry list index text.Service) ∷ [])
    ++ (Markup (codes "</bdi></a></td><td class=\"cell\">") ∷ [])

-- the author and the text
unfoldable pub words_nodes : EntryList → ℕ → List NodeView
words_nodes list index =
    Markup (codes "</td><td class=\"cell\" data-name=\"by\">")
    ∷ Text (Entry list index text.Author)
    ∷ Markup (codes "</td><td class=\"out\">")
    ∷ Text (Entry list index text.Words)
    ∷ Markup (codes "</td><td class=\"cell soft\" data-name=\"id\">")
    ∷ []

-- an id at the gateway of this index, after a comma where it is not the first
unfoldable pub origin_nodes : EntryList → ℕ → ℕ → ℕ → List NodeView
origin_nodes list index gateway id =
    nodes_if (nat_lt 0 gateway) (Markup (codes ", ") ∷ [])
    ++ (Number id
    ∷ Markup (codes " at <bdi>")
    ∷ Text (Entry list index (text.Gateway gateway))
    ∷ Markup (codes "</bdi>")
    ∷ [])

-- the row of the entry of this index
unfoldable pub entry_nodes : EntryList → ℕ → EntryShapeView → List NodeView
entry_nodes list index row =
    entry_name_nodes list index row.is_host
    ++ entry_marks_nodes row.marks
    ++ words_nodes list index
    ++ each_indexed (origin_nodes list index) row.ids
    ++ (Markup (codes "</td></tr>\n") ∷ [])

-- the title of a list
unfoldable pub list_title : EntryList → List NodeView
list_title Comments = Markup (codes "<table><caption><h2>Comments</h2>") ∷ []
list_title Downtimes = Markup (codes "<table><caption><h2>Downtime</h2>") ∷ []

-- how many of its rows are shown of how many, or that those of the objects above are
unfoldable pub extent_nodes : Option ℕ → ℕ → List NodeView
extent_nodes None shown = Markup (codes "of the objects above") ∷ []
extent_nodes (Some all) shown = Number shown ∷ Markup (codes " of ") ∷ Number all ∷ Markup (codes " shown") ∷ []

-- the first columns of its table
unfoldable pub list_columns : EntryList → List NodeView
list_columns Comments =
    Markup (codes "</caption><thead><tr><th scope=\"col\">Object</th>")
    ∷ Markup (codes "<th scope=\"col\">Source</th><th scope=\"col\">Time</th>")
    ∷ []
list_columns Downtimes =
    Markup (codes "</caption><thead><tr><th scope=\"col\">Object</th>")
    ∷ Markup (codes "<th scope=\"col\">Kind</th><th scope=\"col\">Window</th><th scope=\"col\">Began</th>")
    ∷ []

-- the list, of so many rows in all, or of those of the objects above
unfoldable pub entries_table : EntryList → Option ℕ → List EntryShapeView → List NodeView
entries_table list all rows =
    list_title list
    ++ extent_nodes all (length rows)
    ++ list_columns list
    ++ (Markup (codes "<th scope=\"col\">Author</th><th scope=\"col\">Text</th>")
    ∷ Markup (codes "<th scope=\"col\">Id</th></tr></thead><tbody>\n")
    ∷ [])
    ++ each_indexed (entry_nodes list) rows
    ++ (Markup (codes "</tbody></table>\n") ∷ [])

-- those of the objects above; nothing where there is no entry
unfoldable pub entries_nodes : EntryList → List EntryShapeView → List NodeView
entries_nodes list rows = nodes_if (not (length rows == 0)) (entries_table list None rows)
